use Rattle.std.proofs.Common.{◌≡◌, ◌++◌, ◌∙◌, List, ℕ, ap, append_assoc, codes, string_bytes}
use Rattle.feed_history.specs.Lines.{faults_words, place_words, settings_words, stamps_words, text_words}
use Rattle.feed_history.proofs.lines.put_correction.Goals as goal

joined : (out first second third fourth last stamps place inserts deletes sets faults end : List ℕ) → first ≡ out ++ stamps → second ≡ first ++ place → third ≡ second ++ inserts → fourth ≡ third ++ deletes
    → last ≡ fourth ++ (sets ++ faults ++ end) → last ≡ out ++ (stamps ++ place ++ inserts ++ deletes ++ sets ++ faults ++ end)
joined out first second third fourth last stamps place inserts deletes sets faults end a b c d e = rw (e, d, c, b, a) (simp append_assoc)

pub returns : goal.returns
returns g c =
    joined (string_bytes c.args.out.now) (string_bytes c.put_stamps.new.out) (string_bytes c.put_place.new.out) (string_bytes c.put_text.new.out) (string_bytes c.put_text-2.new.out) (string_bytes c.put_tail.new.out)
    (stamps_words c.args.correction) (place_words c.args.place c.args.parts.now.ops.items) (text_words (codes " + \"") c.args.parts.now.inserted.items) (text_words (codes " - \"") c.args.parts.now.taken.symbols.items)
    (settings_words c.args.parts.now.ops.items) (faults_words c.args.parts.now.faults.items) (codes "\n")
    c.in_ok-put_stamps.ensures
    (c.in_ok-put_place.ensures ∙ ap (λ l. string_bytes c.put_stamps.new.out ++ place_words c.args.place l) c.deref.ensures.value)
    (c.in_ok-put_text.ensures ∙ ap (λ l. string_bytes c.put_place.new.out ++ text_words (codes " + \"") l) c.deref-2.ensures.value)
    (c.in_ok-put_text-2.ensures ∙ ap (λ l. string_bytes c.put_text.new.out ++ text_words (codes " - \"") l) c.deref-3.ensures.value)
    (c.in_ok-put_tail.ensures ∙ ap (λ l. string_bytes c.put_text-2.new.out ++ (settings_words l ++ faults_words c.deref-5.result.now ++ codes "\n")) c.deref-4.ensures.value
    ∙ ap (λ l. string_bytes c.put_text-2.new.out ++ (settings_words c.args.parts.now.ops.items ++ faults_words l ++ codes "\n")) c.deref-5.ensures.value)
