-- The lines of stamps, and the stamps of lines.
use Rattle.std.proofs.Common.{◌≡◌, ℕ, ◌+◌, ◌<◌, ◌≤◌, ◌^◌, List, [], ◌∷◌, ◌++◌, length, refl, sym, ap, ap₂, subst, ◌∙◌, append_assoc, arith, rules}
use Rattle.std.specs.Prelude.{codes}
use Rattle.std.specs.Fmt.{decimal}
use Rattle.std.specs.Str.{IsAscii}
use Rattle.std.proofs.lemmas.Fmt.{IsAscii-decimal, decimal_injective}
use Rattle.std.proofs.lemmas.Str.{IsAscii-append}
use Rattle.desk_ops.specs.declared.op.Stamp.{Stamp}
use Rattle.feed_stored.specs.Text.{IsNumbered, Lacks, Rises, last_text, stamp_line}
use Rattle.feed_stored.proofs.Cuts.{cut_same, lacks_decimal, lacks_free}

-- the text behind the word of a line
abbrev pub behind_word : Stamp → List ℕ → List ℕ
behind_word s more = decimal s.site ++ 32 ∷ (decimal s.counter ++ 10 ∷ more)

pub line_parts : (s : Stamp) (more : List ℕ) → stamp_line s ++ more ≡ codes "site" ++ 32 ∷ behind_word s more
line_parts s more =
    ap (λ t. codes "site" ++ 32 ∷ t) (append_assoc (decimal s.site) (32 ∷ (decimal s.counter ++ 10 ∷ [])) more ∙ ap (λ t. decimal s.site ++ 32 ∷ t) (append_assoc (decimal s.counter) (10 ∷ []) more))

pub lacks_word : Lacks 32 (codes "site")
lacks_word = lacks_free 32 (codes "site") ((λ e. omega (arith, e)), ((λ e. omega (arith, e)), ((λ e. omega (arith, e)), ((λ e. omega (arith, e)), tt))))

module _ (text word numbers : List ℕ) (s : Stamp) (more : List ℕ) (numbered : IsNumbered s) (is : text ≡ stamp_line s ++ more) where
  pub of_word : text ≡ word ++ 32 ∷ numbers → Lacks 32 word → (word ≡ codes "site") × (numbers ≡ behind_word s more)
  of_word cut lacks = cut_same 32 word (codes "site") numbers (behind_word s more) lacks lacks_word (sym cut ∙ is ∙ line_parts s more)

  pub of_site : (site rest : List ℕ) → text ≡ word ++ 32 ∷ numbers → Lacks 32 word → numbers ≡ site ++ 32 ∷ rest → Lacks 32 site → (site ≡ decimal s.site) × (rest ≡ decimal s.counter ++ 10 ∷ more)
  of_site site rest cut lacks next lacks_site =
      cut_same 32 site (decimal s.site) rest (decimal s.counter ++ 10 ∷ more) lacks_site (lacks_decimal 32 s.site (omega arith) (omega (arith, numbered.0))) (sym next ∙ (of_word cut lacks).1)

  pub of_counter : (site rest counter last : List ℕ) → text ≡ word ++ 32 ∷ numbers → Lacks 32 word → numbers ≡ site ++ 32 ∷ rest → Lacks 32 site → rest ≡ counter ++ 10 ∷ last → Lacks 10 counter
      → (counter ≡ decimal s.counter) × (last ≡ more)
  of_counter site rest counter last cut lacks next lacks_site end lacks_counter =
      cut_same 10 counter (decimal s.counter) last more lacks_counter (lacks_decimal 10 s.counter (omega arith) numbered.1) (sym end ∙ (of_site site rest cut lacks next lacks_site).1)

-- a line of these parts is that of the stamp
pub line_of_parts : (text word numbers site rest counter more : List ℕ) (s : Stamp) → text ≡ word ++ 32 ∷ numbers → word ≡ codes "site" → numbers ≡ site ++ 32 ∷ rest → site ≡ decimal s.site → rest ≡ counter ++ 10 ∷ more → counter ≡ decimal s.counter
    → text ≡ stamp_line s ++ more
line_of_parts text word numbers site rest counter more s cut first next second end third =
    cut ∙ ap₂ (λ w n. w ++ 32 ∷ n) first (next ∙ ap₂ (λ w n. w ++ 32 ∷ n) second (end ∙ ap (λ w. w ++ 10 ∷ more) third)) ∙ sym (line_parts s more)

-- lines that are one are those of one stamp
pub line_same : (s t : Stamp) (x y : List ℕ) → IsNumbered s → IsNumbered t → stamp_line s ++ x ≡ stamp_line t ++ y → (s ≡ t) × (x ≡ y)
line_same s t x y ns nt e =
    let words = cut_same 32 (codes "site") (codes "site") (behind_word s x) (behind_word t y) lacks_word lacks_word (sym (line_parts s x) ∙ e ∙ line_parts t y) in
    let sites = cut_same 32 (decimal s.site) (decimal t.site) (decimal s.counter ++ 10 ∷ x) (decimal t.counter ++ 10 ∷ y) (lacks_decimal 32 s.site (omega arith) (omega (arith, ns.0))) (lacks_decimal 32 t.site (omega arith) (omega (arith, nt.0))) words.1 in
    let counters = cut_same 10 (decimal s.counter) (decimal t.counter) x y (lacks_decimal 10 s.counter (omega arith) ns.1) (lacks_decimal 10 t.counter (omega arith) nt.1) sites.1 in
    let one : s ≡ t = ap₂ (λ (counter : ℕ) (site : ℕ). record { counter = counter; site = site }) (decimal_injective s.counter t.counter ns.1 nt.1 counters.0) (decimal_injective s.site t.site (omega (arith, ns.0)) (omega (arith, nt.0)) sites.0) in
    (one, counters.1)

-- a text is that of one list
pub texts_same : (low high : ℕ) (first second : List Stamp) → Rises low first → Rises high second → last_text first ≡ last_text second → first ≡ second
texts_same low high [] [] rf rs e = refl
texts_same low high [] (t ∷ second) rf rs e = absurd (cc)
texts_same low high (s ∷ first) [] rf rs e = absurd (cc)
texts_same low high (s ∷ first) (t ∷ second) rf rs e =
    let line = line_same s t (last_text first) (last_text second) rf.0 rs.0 e in
    ap₂ (λ h l. h ∷ l) line.0 (texts_same (s.site + 1) (t.site + 1) first second rf.2 rs.2 line.1)

-- a text is ASCII
ascii_line : (s : Stamp) → IsNumbered s → IsAscii (stamp_line s)
ascii_line s numbered =
    IsAscii-append (codes "site" ++ 32 ∷ []) (decimal s.site ++ 32 ∷ (decimal s.counter ++ 10 ∷ [])) (search rules)
    (IsAscii-append (decimal s.site) (32 ∷ (decimal s.counter ++ 10 ∷ [])) (IsAscii-decimal s.site (omega (arith, numbered.0)))
    (IsAscii-append (32 ∷ []) (decimal s.counter ++ 10 ∷ []) (search rules) (IsAscii-append (decimal s.counter) (10 ∷ []) (IsAscii-decimal s.counter numbered.1) (search rules))))

pub ascii_text : (low : ℕ) (stamps : List Stamp) → Rises low stamps → IsAscii (last_text stamps)
ascii_text low [] rises = search rules
ascii_text low (s ∷ stamps) rises = IsAscii-append (stamp_line s) (last_text stamps) (ascii_line s rises.0) (ascii_text (s.site + 1) stamps rises.2)
