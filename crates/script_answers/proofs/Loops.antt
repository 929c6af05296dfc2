-- Reading in loops.
use Rattle.std.proofs.Common.{◌≡◌, ℕ, ◌+◌, ◌≤◌, ◌<◌, List, [], ◌∷◌, ◌++◌, Option, Some, None, refl, sym, ap, ◌∙◌, append_assoc, length, length-drop, take, drop, get_or, arith}
use Rattle.std.specs.Prelude.{◌≢◌, ◌*◌, ◌-◌, option_to_list}
use Rattle.std.proofs.lemmas.Bool.{false_from_ne_true}
use Rattle.std.proofs.lemmas.List.{append-nil, at_drop_all, length-take, take_all}
use Rattle.desk_ops.specs.declared.op.Symbol.{Symbol}
use Rattle.desk_ops.proofs.Lists.{drop-at}
use Rattle.script_answers.specs.declared.copy.Place.{Place}
use Rattle.script_answers.specs.declared.copy.Place.TheVariants.{Run, Quote, Opened, Inside, Escape, Closed}
use Rattle.script_answers.specs.Reading.{◌>>=◌, nibble, pairs}
use Rattle.script_answers.specs.Copy.{step, ends, copy_from}
use Rattle.script_answers.specs.Memory.{first_symbol, symbol_or}
use Rattle.std.specs.Str.{IsUtf8, is_utf8}
use Rattle.std.proofs.lemmas.Str.{is_utf8-from_IsUtf8, IsUtf8-from_is_utf8}
use Rattle.script_answers.specs.Grammar.{words_of, command_of}

-- what was read before, and what is still read
abbrev pub with_prefix : {A : Type 0} → List A → Option (List A) → Option (List A)
with_prefix prefix read = read >>= λ more. Some (prefix ++ more)

regroup : {A : Type 0} (prefix back : List A) (read : Option (List A)) → with_prefix prefix (read >>= λ more. Some (back ++ more)) ≡ with_prefix (prefix ++ back) read
regroup prefix back None = refl
regroup prefix back (Some xs) = ap Some (sym (append_assoc prefix back xs))

pub copy_go : (prefix : List Symbol) (place : Place) (c : ℕ) (cs : List ℕ) (next : Place × Option Symbol) → step place c ≡ Some next
    → with_prefix prefix (copy_from place (c ∷ cs)) ≡ with_prefix (prefix ++ option_to_list next.1) (copy_from next.0 cs)
copy_go prefix place c cs next p = rw p (regroup prefix (option_to_list next.1) (copy_from next.0 cs))

pub copy_stop : (place : Place) (c : ℕ) (cs : List ℕ) → step place c ≡ None → copy_from place (c ∷ cs) ≡ None
copy_stop place c cs p = rw p refl

pub copy_turn : (prefix : List Symbol) (place : Place) (cs : List ℕ) (n c : ℕ) (next : Place × Option Symbol) (total : Option (List Symbol))
    → (n < length cs) × (c ≡ get_or cs n c) → step place c ≡ Some next → with_prefix prefix (copy_from place (drop n cs)) ≡ total
    → with_prefix (prefix ++ option_to_list next.1) (copy_from next.0 (drop (n + 1) cs)) ≡ total
copy_turn prefix place cs n c next total at p so_far =
    sym (copy_go prefix place c (drop (n + 1) cs) next p) ∙ ap (λ xs. with_prefix prefix (copy_from place xs)) (sym (drop-at cs n c c at.0 at.1)) ∙ so_far

pub copy_halt : (prefix : List Symbol) (place : Place) (cs : List ℕ) (n c : ℕ) (total : Option (List Symbol))
    → (n < length cs) × (c ≡ get_or cs n c) → step place c ≡ None → with_prefix prefix (copy_from place (drop n cs)) ≡ total → total ≡ None
copy_halt prefix place cs n c total at p so_far =
    sym so_far ∙ ap (λ xs. with_prefix prefix (copy_from place xs)) (drop-at cs n c c at.0 at.1) ∙ ap (with_prefix prefix) (copy_stop place c (drop (n + 1) cs) p)

pub copy_end : (prefix : List Symbol) (place : Place) (cs : List ℕ) (n : ℕ) (total : Option (List Symbol))
    → length cs ≤ n → with_prefix prefix (copy_from place (drop n cs)) ≡ total → total ≡ with_prefix prefix (ends place)
copy_end prefix place cs n total past so_far =
    sym so_far ∙ ap (with_prefix prefix) (at_drop_all (copy_from place) cs n past)

-- what a loop keeps, with the symbol that a step ended or with none
pub copy_more : (prefix items : List Symbol) (o : Option Symbol) (place : Place) (cs : List ℕ) (n m : ℕ) (total : Option (List Symbol))
    → items ≡ prefix ++ option_to_list o → m ≡ n + 1 → with_prefix (prefix ++ option_to_list o) (copy_from place (drop (n + 1) cs)) ≡ total
    → with_prefix items (copy_from place (drop m cs)) ≡ total
copy_more prefix items o place cs n m total same next so_far = rw (same, next) so_far

pub closed : (prefix : List Symbol) → with_prefix prefix (Some []) ≡ Some prefix
closed prefix = ap Some (append-nil prefix)

-- nothing but the end of a run ends a copy
pub open_end : (prefix : List Symbol) (place : Place) → (place ≡ Closed → ⊥) → with_prefix prefix (ends place) ≡ None
open_end prefix Run other = refl
open_end prefix (Quote style) other = refl
open_end prefix (Opened style) other = refl
open_end prefix (Inside style) other = refl
open_end prefix (Escape style) other = refl
open_end prefix Closed other = absurd (other refl)

-- the first of the symbols that were read
abbrev pub first_of : List Symbol → Option Symbol
first_of [] = None
first_of (s ∷ symbols) = Some s

first_regroup : (prefix : List Symbol) (o later : Option Symbol) → symbol_or (first_of (prefix ++ option_to_list o)) later ≡ symbol_or (first_of prefix) (symbol_or o later)
first_regroup [] None later = refl
first_regroup [] (Some s) later = refl
first_regroup (x ∷ prefix) o later = refl

first_go : (place : Place) (c : ℕ) (cs : List ℕ) (next : Place × Option Symbol) → step place c ≡ Some next
    → first_symbol place (c ∷ cs) ≡ symbol_or next.1 (first_symbol next.0 cs)
first_go place c cs next p = rw p refl

first_at : (prefix : List Symbol) (place : Place) (cs : List ℕ) (n c : ℕ) (next : Place × Option Symbol) (total : Option Symbol)
    → (n < length cs) × (c ≡ get_or cs n c) → step place c ≡ Some next → symbol_or (first_of prefix) (first_symbol place (drop n cs)) ≡ total
    → symbol_or (first_of prefix) (symbol_or next.1 (first_symbol next.0 (drop (n + 1) cs))) ≡ total
first_at prefix place cs n c next total at p so_far =
    ap (symbol_or (first_of prefix)) (sym (first_go place c (drop (n + 1) cs) next p))
    ∙ ap (λ xs. symbol_or (first_of prefix) (first_symbol place xs)) (sym (drop-at cs n c c at.0 at.1)) ∙ so_far

-- what a loop keeps of the first symbol
pub first_more : (prefix items : List Symbol) (o : Option Symbol) (place new : Place) (cs : List ℕ) (n m c : ℕ) (total : Option Symbol)
    → (n < length cs) × (c ≡ get_or cs n c) → step place c ≡ Some (new, o) → items ≡ prefix ++ option_to_list o → m ≡ n + 1
    → symbol_or (first_of prefix) (first_symbol place (drop n cs)) ≡ total → symbol_or (first_of items) (first_symbol new (drop m cs)) ≡ total
first_more prefix items o place new cs n m c total at p same next so_far =
    rw (same, next) (first_regroup prefix o (first_symbol new (drop (n + 1) cs)) ∙ first_at prefix place cs n c (new, o) total at p so_far)

some_first : (o : Option Symbol) (s : Symbol) (later : Option Symbol) → symbol_or o (symbol_or (Some s) later) ≢ None
some_first None s later e = cc
some_first (Some x) s later e = cc

-- a symbol was read
pub first_comes : (prefix : List Symbol) (place new : Place) (s : Symbol) (cs : List ℕ) (n c : ℕ) (total : Option Symbol)
    → (n < length cs) × (c ≡ get_or cs n c) → step place c ≡ Some (new, Some s) → symbol_or (first_of prefix) (first_symbol place (drop n cs)) ≡ total → total ≢ None
first_comes prefix place new s cs n c total at p so_far none =
    some_first (first_of prefix) s (first_symbol new (drop (n + 1) cs)) (first_at prefix place cs n c (new, Some s) total at p so_far ∙ none)

-- what a loop keeps, with one pair more
pairs_more : (prefix items : List ℕ) (a b high low : ℕ) (rest : List ℕ) (total : Option (List ℕ)) → nibble a ≡ Some high → nibble b ≡ Some low
    → items ≡ prefix ++ (high * 16 + low) ∷ [] → with_prefix prefix (pairs (a ∷ b ∷ rest)) ≡ total → with_prefix items (pairs rest) ≡ total
pairs_more prefix items a b high low rest total first second same so_far =
    rw same (sym (regroup prefix ((high * 16 + low) ∷ []) (pairs rest)) ∙ (rw (first, second) at so_far))

-- after a pair at the start of what is left
pub pairs_turn : (prefix items left : List ℕ) (high low : ℕ) (total : Option (List ℕ)) → 2 ≤ length left → nibble (get_or left 0 0) ≡ Some high → nibble (get_or left 1 0) ≡ Some low
    → items ≡ prefix ++ (high * 16 + low) ∷ [] → with_prefix prefix (pairs left) ≡ total → with_prefix items (pairs (take (length left - 2) (drop 2 left))) ≡ total
pairs_turn prefix items [] high low total two first second same so_far = absurd (omega arith)
pairs_turn prefix items (a ∷ []) high low total two first second same so_far = absurd (omega arith)
pairs_turn prefix items (a ∷ b ∷ rest) high low total two first second same so_far =
    rw (take_all (length (a ∷ b ∷ rest) - 2) rest (omega arith)) (pairs_more prefix items a b high low rest total first second same so_far)

pub pairs_within : (left word : List ℕ) → length left ≤ length word → length (take (length left - 2) (drop 2 left)) ≤ length word
pairs_within left word within = omega (arith, length-take (length left - 2) (drop 2 left), length-drop 2 left)

pub command_of-text : (line : List ℕ) → IsUtf8 line → command_of line ≡ words_of line
unfolding command_of
command_of-text line text = rw (is_utf8-from_IsUtf8 line text) refl

pub command_of-bytes : (line : List ℕ) → (IsUtf8 line → ⊥) → command_of line ≡ None
unfolding command_of
command_of-bytes line other = rw (false_from_ne_true (is_utf8 line) (λ e. other (IsUtf8-from_is_utf8 line e))) refl
