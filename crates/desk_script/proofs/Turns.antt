-- Lines that were answered, one part after another.
use Rattle.std.proofs.Common.{◌≡◌, ℕ, inl, inr, true, false, List, [], ◌∷◌, ◌++◌, Option, refl, sym, ap, ◌∙◌, subst, append_assoc}
use Rattle.std.specs.Io.KnownBytes.{Appends, Keeps}
use Rattle.std.proofs.KnownBytes.{Appends-kept, Appends-nil, Appends-trans}
use Rattle.std.proofs.lemmas.List.{append-nil}
use Rattle.script_answers.specs.Reply.{ReplyValues, Refused, is_long}
use Rattle.script_answers.specs.declared.text.Refusal.{Refusal}
use Rattle.script_answers.specs.declared.text.Refusal.TheVariants as refusals
use Rattle.script_answers.specs.Text.{text, output}
use Rattle.feed_files.specs.Files.{Shelf, Stays}
use Rattle.desk_script.specs.Desk.{Desk}
use Rattle.desk_script.specs.Line.{Allows, Bytes, Line, Long}
use Rattle.feed_stored.specs.Sending.{WritesPrefix}
use Rattle.desk_script.specs.Script.{Script, Turn, StopsWithin, StopsBefore, IsReported}

pub no_turn : (old : Desk) (a : Option (List ℕ)) → Turn old old a a []
no_turn old a = ([], refl, Appends-nil a)

-- a refusal is not long
never : (P : Type 0) (reply : ReplyValues) (why : Refusal) → reply ≡ Refused why → is_long reply ≡ true → P
never P reply why is long = let short : is_long reply ≡ false = ap is_long is in absurd (cc)

-- A reply whose text finds no memory is that refusal, and it is allowed where nothing has changed. No reply to a line that is too long is such.
pub reported_allowed : (old new : Desk) (line : Line) (reply reported : ReplyValues) → Allows old line reply new → (is_long reply ≡ true → new ≡ old) → IsReported reply reported → Allows old line reported new
reported_allowed old new line reply reported allowed same (inl is) = subst (λ (r : ReplyValues). Allows old line r new) (sym is) allowed
reported_allowed old new (Bytes bytes) reply reported allowed same (inr h) = inr (tt, (h.1, same h.0))
reported_allowed old new Long reply reported (inl allowed) same (inr h) = never (Allows old Long reported new) reply refusals.Line allowed.0 h.0
reported_allowed old new Long reply reported (inr lacks) same (inr h) = absurd lacks.0

pub one_turn : (old new : Desk) (a b : Option (List ℕ)) (line : Line) (bytes : List ℕ) (reply : ReplyValues) → Allows old line reply new → bytes ≡ text reply ++ 10 ∷ [] → Appends a b bytes → Turn old new a b (line ∷ [])
one_turn old new a b line bytes reply allowed is written = (reply ∷ [], (new, allowed, refl), subst (Appends a b) is written)

pub one_prefix : (old new : Desk) (last : Shelf) (a b : Option (List ℕ)) (line : Line) (bytes : List ℕ) (reply : ReplyValues) (more : List Line) → Stays new.shelf last → Allows old line reply new → bytes ≡ text reply ++ 10 ∷ [] → WritesPrefix a b bytes → StopsWithin old last a b (line ∷ more)
one_prefix old new last a b line bytes reply more still allowed is (done, rest, written, split) =
    (line ∷ [], more, refl, new, still, reply ∷ [], (new, allowed, refl), (done, rest, written, sym is ∙ split))

output-append : (rs ss : List ReplyValues) → output (rs ++ ss) ≡ output rs ++ output ss
output-append [] ss = refl
output-append (r ∷ rs) ss = ap (λ l. text r ++ (10 ∷ l)) (output-append rs ss) ∙ sym (append_assoc (text r) (10 ∷ output rs) (output ss))

script-append : (old mid new : Desk) (ls ms : List Line) (rs ss : List ReplyValues) → Script old ls rs mid → Script mid ms ss new → Script old (ls ++ ms) (rs ++ ss) new
script-append old mid new [] ms [] ss first second = subst (λ (w : Desk). Script w ms ss new) first second
script-append old mid new [] ms (r ∷ rs) ss first second = absurd first
script-append old mid new (l ∷ ls) ms [] ss first second = absurd first
script-append old mid new (l ∷ ls) ms (r ∷ rs) ss (next, allowed, rest) second = (next, allowed, script-append next mid new ls ms rs ss rest second)

pub turn_turn : (old mid new : Desk) (a b c : Option (List ℕ)) (ls ms : List Line) → Turn old mid a b ls → Turn mid new b c ms → Turn old new a c (ls ++ ms)
turn_turn old mid new a b c ls ms (rs, first, written) (ss, second, more) =
    (rs ++ ss, script-append old mid new ls ms rs ss first second, subst (Appends a c) (sym (output-append rs ss)) (Appends-trans a b c _ _ written more))

pub turn_prefix : (old mid : Desk) (last : Shelf) (a b c : Option (List ℕ)) (ls ms : List Line) → Turn old mid a b ls → StopsWithin mid last b c ms → StopsWithin old last a c (ls ++ ms)
turn_prefix old mid last a b c ls ms (rs, first, written) (prefix, tail, split, new, still, ss, second, (done, rest, more, cut)) = (
  ls ++ prefix,
  tail,
  ap (λ l. ls ++ l) split ∙ sym (append_assoc ls prefix tail),
  new,
  still,
  rs ++ ss,
  script-append old mid new ls prefix rs ss first second,
  (output rs ++ done, rest, Appends-trans a b c _ _ written more, output-append rs ss ∙ ap (λ l. output rs ++ l) cut ∙ sym (append_assoc (output rs) done rest)),
)

pub turn_before : (old mid : Desk) (last : Shelf) (a b c : Option (List ℕ)) (ls ms : List Line) → Turn old mid a b ls → StopsBefore mid last b c ms → StopsBefore old last a c (ls ++ ms)
turn_before old mid last a b c ls ms turn (prefix, tail, next, split, new, still, more) =
    (ls ++ prefix, tail, next, ap (λ l. ls ++ l) split ∙ sym (append_assoc ls prefix (next ∷ tail)), new, still, turn_turn old mid new a b c ls prefix turn more)

-- ---- a writer that lets out what it held back

pub turn_kept : (old new : Desk) (a b c : Option (List ℕ)) (ls : List Line) → Turn old new a b ls → Keeps b c → Turn old new a c ls
turn_kept old new a b c ls (rs, first, written) k = (rs, first, Appends-kept a b c (output rs) written k)

-- all of the first lines were answered, and what comes after them was not
pub turn_stops : (old new : Desk) (last : Shelf) (a b : Option (List ℕ)) (ls more : List Line) → Stays new.shelf last → Turn old new a b ls → StopsWithin old last a b (ls ++ more)
turn_stops old new last a b ls more still (rs, first, written) = (ls, more, refl, new, still, rs, first, (output rs, [], written, sym (append-nil (output rs))))

-- before a line that was not kept all answers were written
pub before_within : (old : Desk) (last : Shelf) (a b : Option (List ℕ)) (ls : List Line) → StopsBefore old last a b ls → StopsWithin old last a b ls
before_within old last a b ls (prefix, tail, next, split, new, still, turn) =
    subst (StopsWithin old last a b) (sym split) (turn_stops old new last a b prefix (next ∷ tail) still turn)
