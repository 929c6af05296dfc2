-- Reading in a loop.
use Rattle.std.proofs.Common.{◌≡◌, ℕ, ◌+◌, ◌≤◌, ◌<◌, Bool, true, List, [], ◌∷◌, ◌++◌, Option, Result, Ok, Err, refl, sym, ap, ◌∙◌, append_assoc, length, take, drop, get_or, subst, take_all, arith, ◌==◌}
use Rattle.std.specs.Prelude.{option_to_list, IsErrAnd}
use Rattle.std.specs.Str.{IsUtf8, chars}
use Rattle.std.specs.Str.Lossy.{utf8_valid_len}
use Rattle.std.proofs.lemmas.Bool.Decides.{nat_tests}
use Rattle.std.proofs.lemmas.Str.{utf8_valid_len-IsUtf8}
use Rattle.std.proofs.lemmas.List.{append-nil, at_drop_all}
use Rattle.desk_ops.specs.declared.op.Symbol.{Symbol}
use Rattle.desk_ops.proofs.Stamps.{by_cases}
use Rattle.desk_ops.proofs.Lists.{drop-at}
use Rattle.text_copy.specs.declared.fault.Place.{Place}
use Rattle.text_copy.specs.declared.fault.TextFault.{TextFault}
use Rattle.text_copy.specs.declared.fault.TextFault.TheVariants.{At, NoMemory}
use Rattle.desk_ops.specs.declared.op.Style.TheVariants.{Roman}
use Rattle.text_copy.specs.declared.reader.State.TheVariants.{Within}
use Rattle.text_copy.specs.declared.reader.State.{State}
use Rattle.text_copy.specs.Reading.{◌>>=◌, Fails, Gives, step, after, ends, start, read_from, reading}

-- what was read before, and what is still read
abbrev pub with_prefix : {A : Type 0} → List A → Result (List A) TextFault → Result (List A) TextFault
with_prefix prefix read = read >>= λ more. Ok (prefix ++ more)

regroup : {A : Type 0} (prefix back : List A) (read : Result (List A) TextFault) → with_prefix prefix (read >>= λ more. Ok (back ++ more)) ≡ with_prefix (prefix ++ back) read
regroup prefix back (Err e) = refl
regroup prefix back (Ok xs) = ap Ok (sym (append_assoc prefix back xs))

-- a character is read on
pub read_on : (plain whole : Bool) (prefix items : List Symbol) (state : State) (here there : Place) (cs : List ℕ) (n m c : ℕ) (to : State) (o : Option Symbol) (total : Result (List Symbol) TextFault)
    → (n < length cs) × (c ≡ get_or cs n c) → step plain state here c ≡ Ok (to, o) → items ≡ prefix ++ option_to_list o → there ≡ after here c → m ≡ n + 1
    → with_prefix prefix (read_from plain whole state here (drop n cs)) ≡ total
    → with_prefix items (read_from plain whole to there (drop m cs)) ≡ total
read_on plain whole prefix items state here there cs n m c to o total at stepped same moved next so_far =
    let go : read_from plain whole state here (c ∷ drop (n + 1) cs) ≡ (read_from plain whole to (after here c) (drop (n + 1) cs) >>= λ more. Ok (option_to_list o ++ more)) = rw stepped refl in
    let ahead : with_prefix items (read_from plain whole to there (drop m cs)) ≡ with_prefix (prefix ++ option_to_list o) (read_from plain whole to (after here c) (drop (n + 1) cs)) = rw (same, moved, next) refl in
    ahead ∙ sym (regroup prefix (option_to_list o) (read_from plain whole to (after here c) (drop (n + 1) cs)))
    ∙ ap (with_prefix prefix) (sym go) ∙ ap (λ xs. with_prefix prefix (read_from plain whole state here xs)) (sym (drop-at cs n c c at.0 at.1)) ∙ so_far

-- a character is at fault
pub read_halt : (plain whole : Bool) (prefix : List Symbol) (state : State) (here : Place) (cs : List ℕ) (n c : ℕ) (e : TextFault) (total : Result (List Symbol) TextFault)
    → (n < length cs) × (c ≡ get_or cs n c) → step plain state here c ≡ Err e
    → with_prefix prefix (read_from plain whole state here (drop n cs)) ≡ total → total ≡ Err e
read_halt plain whole prefix state here cs n c e total at stepped so_far =
    let go : read_from plain whole state here (c ∷ drop (n + 1) cs) ≡ Err e = rw stepped refl in
    sym so_far ∙ ap (λ xs. with_prefix prefix (read_from plain whole state here xs)) (drop-at cs n c c at.0 at.1) ∙ ap (with_prefix prefix) go

pub read_end : (plain whole : Bool) (prefix : List Symbol) (state : State) (here : Place) (cs : List ℕ) (n : ℕ) (total : Result (List Symbol) TextFault)
    → length cs ≤ n → with_prefix prefix (read_from plain whole state here (drop n cs)) ≡ total
    → total ≡ with_prefix prefix (ends whole state here >>= λ end. Ok [])
read_end plain whole prefix state here cs n total past so_far =
    sym so_far ∙ ap (with_prefix prefix) (at_drop_all (read_from plain whole state here) cs n past)

pub ends_well : (whole : Bool) (prefix : List Symbol) (state : State) (here : Place) (total : Result (List Symbol) TextFault)
    → ends whole state here ≡ Ok tt → total ≡ with_prefix prefix (ends whole state here >>= λ end. Ok []) → total ≡ Ok prefix
ends_well whole prefix state here total ended so_far =
    so_far ∙ ap (λ r. with_prefix prefix (r >>= λ end. Ok [])) ended ∙ ap Ok (append-nil prefix)

pub ends_badly : (whole : Bool) (prefix : List Symbol) (state : State) (here : Place) (e : TextFault) (total : Result (List Symbol) TextFault)
    → ends whole state here ≡ Err e → total ≡ with_prefix prefix (ends whole state here >>= λ end. Ok []) → total ≡ Err e
ends_badly whole prefix state here e total ended so_far = so_far ∙ ap (λ r. with_prefix prefix (r >>= λ end. Ok [])) ended

-- what is handed on by `?`
pub handed_on : {X Y : Type 0} (view : X → Y) (result : Result X TextFault) (e : TextFault) (read : Result Y TextFault) → IsErrAnd result (λ given. given ≡ e) → read ≡ Err e → Gives view result read
handed_on view (Ok x) e read given is = absurd given
handed_on view (Err f) e read given is = subst (λ g. Fails g read) (sym given) (failed e read is)
  where
    failed : {Y : Type 0} (e : TextFault) (read : Result Y TextFault) → read ≡ Err e → Fails e read
    failed NoMemory read is = tt
    failed (At line column cause) read is = is

-- all bytes are UTF-8
pub whole_read : (plain : Bool) (bytes : List ℕ) → IsUtf8 bytes → read_from plain true (Within Roman) start (chars bytes) ≡ reading plain bytes
whole_read plain bytes text =
    let all : utf8_valid_len bytes ≡ length bytes = utf8_valid_len-IsUtf8 bytes text in
    let same : (length bytes == length bytes) ≡ true = grind (arith, nat_tests) in
    sym (ap (λ n. read_from plain (n == length bytes) (Within Roman) start (chars (take n bytes))) all
    ∙ ap (λ b. read_from plain b (Within Roman) start (chars (take (length bytes) bytes))) same
    ∙ ap (λ xs. read_from plain true (Within Roman) start (chars xs)) (take_all (length bytes) bytes (omega arith)))

line_after : (here : Place) (c n : ℕ) → here.line ≤ n + 1 → (after here c).line ≤ n + 2
line_after here c n line = by_cases (c == 10) (λ e. rw e (omega (arith, line))) (λ e. rw e (omega (arith, line)))

column_after : (here : Place) (c n : ℕ) → here.column ≤ n + 1 → (after here c).column ≤ n + 2
column_after here c n column = by_cases (c == 10) (λ e. rw e (omega arith)) (λ e. rw e (omega (arith, column)))

-- a place is no further than the characters before it
pub place_after : (here there : Place) (c n m : ℕ) → there ≡ after here c → m ≡ n + 1 → here.line ≤ n + 1 → here.column ≤ n + 1 → (there.line ≤ m + 1) × (there.column ≤ m + 1)
place_after here there c n m moved next line column =
    let l : there.line ≤ n + 2 = rw moved (line_after here c n line) in
    let k : there.column ≤ n + 2 = rw moved (column_after here c n column) in
    (omega (arith, l, next), omega (arith, k, next))
