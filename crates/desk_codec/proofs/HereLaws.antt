-- The fields of an operation and of a run stand at the start of bytes enough, and are lawful or have a cause.
use Rattle.std.proofs.Common.{◌≡◌, ℕ, zero, suc, ◌+◌, ◌*◌, ◌^◌, ◌<◌, ◌≤◌, ◌==◌, Bool, true, false, cond, not, List, [], ◌∷◌, ◌++◌, length, map, get_or, take, drop, Option, Some, None, Result, Ok, Err, refl, sym, ap, subst, ◌∙◌, ◌⊎◌, inl, inr, length-append, arith}
use Rattle.std.specs.Int.{w16, w32, w64, to_be_bytes, from_be_bytes}
use Rattle.std.specs.List.{flat_map, AllByRecursion}
use Rattle.std.specs.Char.{InScalarRange}
use Rattle.std.proofs.lemmas.Bool.Decides.{nat_tests}
use Rattle.std.proofs.lemmas.List.{length-drop, get_or-append-add}
use Rattle.std.proofs.lemmas.List.Concat.{flat_map-cons}
use Rattle.desk_ops.specs.declared.op.Stamp.{Stamp}
use Rattle.desk_ops.specs.declared.op.Style.{Style}
use Rattle.desk_ops.specs.declared.op.Symbol.{Symbol}
use Rattle.desk_ops.specs.declared.op.Key.{Key}
use Rattle.desk_ops.specs.declared.op.Op.{Op}
use Rattle.desk_ops.specs.declared.op.Op.TheVariants as ops
use Rattle.desk_ops.specs.declared.op.Unlawful.{Unlawful}
use Rattle.desk_ops.specs.declared.op.Unlawful.TheVariants as unlawful
use Rattle.desk_ops.specs.Op.{verdict}
use Rattle.desk_ops.specs.Order.{style_code}
use Rattle.desk_ops.specs.Stamp.{is_counter}
use Rattle.desk_ops.proofs.Lawful.{lawful_from, lawful_true}
use Rattle.desk_codec.specs.declared.form.FeedForm.{FeedForm}
use Rattle.desk_codec.specs.declared.fields.Fields.{Fields}
use Rattle.desk_codec.specs.declared.fields.Fields.TheVariants.{Insert, Delete, Set}
use Rattle.desk_codec.specs.Spelling.{stamp_spelling, IsStampValue, IsHeld}
use Rattle.desk_codec.specs.Items.{Run, next_stamp, run_ops, symbol_spelling, item_spelling}
use Rattle.desk_codec.specs.Feed.{HasRuns, IsRunLength, Stands}
use Rattle.desk_codec.specs.Fault.{fields_of, bytes_of, AreValues, style_of, key_of, is_character, no_symbol, symbol_in, setting_cause, cause, then_cause, run_cause, Mark, mark_of, mark_bytes, IsMarkValue, RunOf, BeginsRun, IsUnlawful}
use Rattle.desk_codec.proofs.Numbers.{IsBytes, IsBytes-drop, IsBytes-take, number_there_4, stamp_there}
use Rattle.desk_codec.proofs.FieldLaws.{insert_back, set_back, held_cause}

-- ---- fields stand at the start of bytes enough

below_2 : (bytes : List ℕ) → IsBytes bytes → from_be_bytes w16 bytes < 2 ^ 16
below_2 bytes fits = omega (arith, fits 0, fits 1)

below_4 : (bytes : List ℕ) → IsBytes bytes → from_be_bytes w32 bytes < 2 ^ 32
below_4 bytes fits = omega (arith, fits 0, fits 1, fits 2, fits 3)

below_8 : (bytes : List ℕ) → IsBytes bytes → from_be_bytes w64 bytes < 2 ^ 64
below_8 bytes fits = omega (arith, fits 0, fits 1, fits 2, fits 3, fits 4, fits 5, fits 6, fits 7)

pub record StampHere (bytes : List ℕ) : Type 0 where
  pub stamp : Stamp
  pub value : IsStampValue stamp
  pub rest : List ℕ
  pub prefix : bytes ≡ stamp_spelling stamp ++ rest
  pub fits : IsBytes rest
  pub len : length rest + 10 ≡ length bytes

pub stamp_here : (bytes : List ℕ) → IsBytes bytes → 10 ≤ length bytes → StampHere bytes
stamp_here bytes fits long =
    let one = take 8 bytes in
    let rest = drop 8 bytes in
    let rest_fits : IsBytes rest = IsBytes-drop 8 bytes fits in
    let two = take 2 rest in
    let end = drop 2 rest in
    let stamp : Stamp = record { counter = from_be_bytes w64 one; site = from_be_bytes w16 two } in
    record {
      stamp = stamp;
      value = (below_8 one (IsBytes-take 8 bytes fits), below_2 two (IsBytes-take 2 rest rest_fits));
      rest = end;
      prefix = stamp_there bytes one rest two end stamp fits long refl refl refl refl refl refl;
      fits = IsBytes-drop 2 rest rest_fits;
      len = omega (arith, length-drop 2 rest, length-drop 8 bytes);
    }

pub record NumberHere (bytes : List ℕ) : Type 0 where
  pub number : ℕ
  pub value : number < 2 ^ 32
  pub rest : List ℕ
  pub prefix : bytes ≡ to_be_bytes w32 number ++ rest

number_here : (bytes : List ℕ) → IsBytes bytes → 4 ≤ length bytes → NumberHere bytes
number_here bytes fits long = record {
  number = from_be_bytes w32 (take 4 bytes);
  value = below_4 (take 4 bytes) (IsBytes-take 4 bytes fits);
  rest = drop 4 bytes;
  prefix = number_there_4 bytes (take 4 bytes) (drop 4 bytes) (from_be_bytes w32 (take 4 bytes)) fits long refl refl refl;
}

pub record ByteAndNumberHere (bytes : List ℕ) : Type 0 where
  pub byte : ℕ
  pub byte_value : byte < 2 ^ 8
  pub number : ℕ
  pub value : number < 2 ^ 32
  pub rest : List ℕ
  pub prefix : bytes ≡ byte ∷ to_be_bytes w32 number ++ rest

pub byte_and_number_here : (bytes : List ℕ) → IsBytes bytes → 5 ≤ length bytes → ByteAndNumberHere bytes
byte_and_number_here [] fits long = absurd (omega arith)
byte_and_number_here (b ∷ bytes) fits long =
    let n = number_here bytes (λ i. fits (suc i)) (omega arith) in
    record { byte = b; byte_value = fits 0; number = n.number; value = n.value; rest = n.rest; prefix = ap (λ (l : List ℕ). b ∷ l) n.prefix }

pub record FieldsHere (bytes : List ℕ) : Type 0 where
  pub fields : Fields
  pub values : AreValues fields
  pub rest : List ℕ
  pub prefix : bytes ≡ bytes_of fields ++ rest

pub insert_here : (bytes : List ℕ) → IsBytes bytes → 25 ≤ length bytes → FieldsHere (1 ∷ bytes)
insert_here bytes fits long =
    let s = stamp_here bytes fits (omega arith) in
    let p = stamp_here s.rest s.fits (omega (arith, s.len)) in
    let n = byte_and_number_here p.rest p.fits (omega (arith, s.len, p.len)) in
    let prefix : bytes ≡ stamp_spelling s.stamp ++ (stamp_spelling p.stamp ++ (n.byte ∷ to_be_bytes w32 n.number ++ n.rest)) =
    s.prefix ∙ ap (λ (l : List ℕ). stamp_spelling s.stamp ++ l) (p.prefix ∙ ap (λ (l : List ℕ). stamp_spelling p.stamp ++ l) n.prefix)
    in
    record { fields = Insert s.stamp p.stamp n.byte n.number; values = (s.value, p.value, n.byte_value, n.value); rest = n.rest; prefix = ap (λ (l : List ℕ). 1 ∷ l) prefix }

pub delete_here : (bytes : List ℕ) → IsBytes bytes → 20 ≤ length bytes → FieldsHere (2 ∷ bytes)
delete_here bytes fits long =
    let s = stamp_here bytes fits (omega arith) in
    let p = stamp_here s.rest s.fits (omega (arith, s.len)) in
    let prefix : bytes ≡ stamp_spelling s.stamp ++ (stamp_spelling p.stamp ++ p.rest) = s.prefix ∙ ap (λ (l : List ℕ). stamp_spelling s.stamp ++ l) p.prefix in
    record { fields = Delete s.stamp p.stamp; values = (s.value, p.value); rest = p.rest; prefix = ap (λ (l : List ℕ). 2 ∷ l) prefix }

pub set_here : (bytes : List ℕ) → IsBytes bytes → 15 ≤ length bytes → FieldsHere (3 ∷ bytes)
set_here bytes fits long =
    let s = stamp_here bytes fits (omega arith) in
    let n = byte_and_number_here s.rest s.fits (omega (arith, s.len)) in
    let prefix : bytes ≡ stamp_spelling s.stamp ++ (n.byte ∷ to_be_bytes w32 n.number ++ n.rest) = s.prefix ∙ ap (λ (l : List ℕ). stamp_spelling s.stamp ++ l) n.prefix in
    record { fields = Set s.stamp n.byte n.number; values = (s.value, n.byte_value, n.value); rest = n.rest; prefix = ap (λ (l : List ℕ). 3 ∷ l) prefix }

-- ---- fields are a lawful operation's or have a cause

result_cases : (r : Result (Unit {0}) Unlawful) → (r ≡ Ok tt) ⊎ ((u : Unlawful) × (r ≡ Err u))
result_cases (Ok x) = inl refl
result_cases (Err u) = inr (u, refl)

abbrev symbol_if : Bool → Style → ℕ → Symbol
symbol_if b s ch = cond b (record { style = s; ch = ch }) no_symbol

scalar_if : (s : Style) (ch : ℕ) (b : Bool) → is_character ch ≡ b → InScalarRange (symbol_if b s ch).ch
scalar_if s ch true e = grind (arith, nat_tests)
scalar_if s ch false e = inl (omega arith)

scalar_in : (o : Option Style) (ch : ℕ) → InScalarRange (symbol_in o ch).ch
scalar_in (Some s) ch = scalar_if s ch (is_character ch) refl
scalar_in None ch = inl (omega arith)

pub record Judged (fields : Fields) : Type 0 where
  pub op : Op
  pub held : IsHeld op
  pub is : fields_of op ≡ fields

abbrev pub IsJudged : Fields → Type 0
IsJudged fields = Judged fields ⊎ ((u : Unlawful) × (cause fields ≡ Err u))

abbrev same_error : Unlawful → Result (Unit {0}) Unlawful
same_error u = Err u

first_of_stamp : (a b : Bool) (r s t : Unlawful) → (u : Unlawful) × (cond a (cond b (same_error t) (same_error s)) (same_error r) ≡ Err u)
first_of_stamp true true r s t = (t, refl)
first_of_stamp true false r s t = (s, refl)
first_of_stamp false b r s t = (r, refl)

set_judged : (stamp : Stamp) (key value : ℕ) (o : Option Key) → key_of key ≡ o → IsStampValue stamp → value < 2 ^ 32 → IsJudged (Set stamp key value)
set_judged stamp key value (Some k) e sv v =
    elim (result_cases (verdict (ops.Set stamp k value))) [
      | inl lawful ↦ inl (record { op = ops.Set stamp k value; held = record { lawful = lawful_from (ops.Set stamp k value) lawful; value = (sv, v) }; is = set_back stamp key value k (ops.Set stamp k value) refl e })
      | inr h ↦ inr (h.0, ap (λ (o : Option Key). setting_cause stamp o value) e ∙ h.1)
    ]
set_judged stamp key value None e sv v =
    let h = first_of_stamp (is_counter stamp.counter) (not (stamp.site == 0)) unlawful.Counter unlawful.Site unlawful.Key in
    inr (h.0, ap (λ (o : Option Key). setting_cause stamp o value) e ∙ h.1)

pub judged : (fields : Fields) → AreValues fields → IsJudged fields
judged (Insert stamp parent style ch) f =
    let y : Symbol = symbol_in (style_of style) ch in
    elim (result_cases (verdict (ops.Insert stamp parent y))) [
      | inl lawful ↦ inl (record { op = ops.Insert stamp parent y; held = record { lawful = lawful_from (ops.Insert stamp parent y) lawful; value = (f.0, f.1, scalar_in (style_of style) ch) }; is = insert_back stamp parent style ch (ops.Insert stamp parent y) refl lawful })
      | inr h ↦ inr h
    ]
judged (Delete stamp target) f =
    elim (result_cases (verdict (ops.Delete stamp target))) [
      | inl lawful ↦ inl (record { op = ops.Delete stamp target; held = record { lawful = lawful_from (ops.Delete stamp target) lawful; value = f }; is = refl })
      | inr h ↦ inr h
    ]
judged (Set stamp key value) f = set_judged stamp key value (key_of key) refl f.0 f.2

-- ---- a run of inserts is lawful or has a cause

-- a lawful operation of an insert's fields is that insert
pub record InsertOf (op : Op) (stamp parent : Stamp) (style ch : ℕ) : Type 0 where
  pub symbol : Symbol
  pub is : op ≡ ops.Insert stamp parent symbol
  pub mark : mark_of symbol ≡ record { style = style; ch = ch }

mark_is : (symbol : Symbol) (style ch : ℕ) → style_code symbol.style ≡ style → symbol.ch ≡ ch → mark_of symbol ≡ record { style = style; ch = ch }
mark_is symbol style ch f g i = record { style = f i; ch = g i }

pub insert_of : (op : Op) (stamp parent : Stamp) (style ch : ℕ) → fields_of op ≡ Insert stamp parent style ch → InsertOf op stamp parent style ch
insert_of (ops.Insert s p y) stamp parent style ch e =
    let one : s ≡ stamp = cc in
    let two : p ≡ parent = cc in
    let three : style_code y.style ≡ style = cc in
    let four : y.ch ≡ ch = cc in
    record { symbol = y; is = cc; mark = mark_is y style ch three four }
insert_of (ops.Delete s t) stamp parent style ch e = absurd cc
insert_of (ops.Set s k v) stamp parent style ch e = absurd cc

-- a lawful insert's stamp has a next one
pub next_value : (stamp parent : Stamp) (symbol : Symbol) → IsHeld (ops.Insert stamp parent symbol) → (stamp.counter + 1 < 2 ^ 64) × IsStampValue (next_stamp stamp)
next_value stamp parent symbol h =
    let most = h.lawful.0.1 in
    let site = h.value.0.1 in
    (omega (arith, most), (omega (arith, most), site))

pub record RunOfMarks (stamp parent : Stamp) (marks : List Mark) : Type 0 where
  pub symbols : List Symbol
  pub are : map mark_of symbols ≡ marks
  pub each : AllByRecursion IsHeld (run_ops stamp parent symbols)

abbrev pub IsRunJudged : Stamp → Stamp → List Mark → Type 0
IsRunJudged stamp parent marks = RunOfMarks stamp parent marks ⊎ ((u : Unlawful) × (run_cause stamp parent marks ≡ Err u))

held_mark_cause : (stamp parent : Stamp) (mark : Mark) (op : Op) → IsHeld op → fields_of op ≡ Insert stamp parent mark.style mark.ch → cause (Insert stamp parent mark.style mark.ch) ≡ Ok tt
held_mark_cause stamp parent mark op h e = sym (ap cause e) ∙ held_cause op h.value ∙ lawful_true op h.lawful

pub cause_after : (stamp parent : Stamp) (mark : Mark) (marks : List Mark) (op : Op) (u : Unlawful) → IsHeld op → fields_of op ≡ Insert stamp parent mark.style mark.ch → run_cause (next_stamp stamp) stamp marks ≡ Err u → run_cause stamp parent (mark ∷ marks) ≡ Err u
cause_after stamp parent mark marks op u h e r = ap (λ (c : Result (Unit {0}) Unlawful). then_cause c (run_cause (next_stamp stamp) stamp marks)) (held_mark_cause stamp parent mark op h e) ∙ r

pub cause_first : (stamp parent : Stamp) (mark : Mark) (marks : List Mark) (u : Unlawful) → cause (Insert stamp parent mark.style mark.ch) ≡ Err u → run_cause stamp parent (mark ∷ marks) ≡ Err u
cause_first stamp parent mark marks u e = ap (λ (c : Result (Unit {0}) Unlawful). then_cause c (run_cause (next_stamp stamp) stamp marks)) e

-- the insert before the symbols of a run
run_of : (stamp parent : Stamp) (mark : Mark) (marks : List Mark) (op : Op) → IsHeld op → InsertOf op stamp parent mark.style mark.ch → RunOfMarks (next_stamp stamp) stamp marks → RunOfMarks stamp parent (mark ∷ marks)
run_of stamp parent mark marks op h i r =
    let held : IsHeld (ops.Insert stamp parent i.symbol) = subst (λ (o : Op). IsHeld o) i.is h in
    let first : mark_of i.symbol ≡ mark = i.mark in
    let others = r.are in
    record { symbols = i.symbol ∷ r.symbols; are = cc; each = (held, r.each) }

pub run_judged : (marks : List Mark) (stamp parent : Stamp) → IsStampValue stamp → IsStampValue parent → AllByRecursion IsMarkValue marks → IsRunJudged stamp parent marks
run_judged [] stamp parent s p h = inl (record { symbols = []; are = refl; each = tt })
run_judged (mark ∷ marks) stamp parent s p h =
    elim (judged (Insert stamp parent mark.style mark.ch) (s, p, h.0.0, h.0.1)) [
      | inr u ↦ inr (u.0, cause_first stamp parent mark marks u.0 u.1)
      | inl j ↦
          let i = insert_of j.op stamp parent mark.style mark.ch j.is in
          let next = next_value stamp parent i.symbol (subst (λ (o : Op). IsHeld o) i.is j.held) in
          elim (run_judged marks (next_stamp stamp) stamp next.1 s h.1) [
            | inl r ↦ inl (run_of stamp parent mark marks j.op j.held i r)
            | inr u ↦ inr (u.0, cause_after stamp parent mark marks j.op u.0 j.held j.is u.1)
          ]
    ]

-- ---- the symbols of a run stand at the start of bytes enough

pub rest_bytes : (bytes prefix rest : List ℕ) → IsBytes bytes → bytes ≡ prefix ++ rest → IsBytes rest
rest_bytes bytes prefix rest fits e i = let h = fits (length prefix + i) in rw (ap (λ (l : List ℕ). get_or l (length prefix + i) 0) e ∙ get_or-append-add prefix rest i 0) at h

pub record MarksHere (count : ℕ) (bytes : List ℕ) : Type 0 where
  pub marks : List Mark
  pub many : length marks ≡ count
  pub values : AllByRecursion IsMarkValue marks
  pub rest : List ℕ
  pub prefix : bytes ≡ flat_map mark_bytes marks ++ rest

mark_before : (count : ℕ) (bytes rest : List ℕ) (style ch : ℕ) → style < 2 ^ 8 → ch < 2 ^ 32 → bytes ≡ style ∷ to_be_bytes w32 ch ++ rest → MarksHere count rest → MarksHere (suc count) bytes
mark_before count bytes rest style ch f g e m =
    let mark : Mark = record { style = style; ch = ch } in
    let all : bytes ≡ flat_map mark_bytes (mark ∷ m.marks) ++ m.rest = e ∙ ap (λ (l : List ℕ). style ∷ to_be_bytes w32 ch ++ l) m.prefix ∙ ap (λ (l : List ℕ). l ++ m.rest) (sym (flat_map-cons mark_bytes mark m.marks)) in
    let many = m.many in
    record { marks = mark ∷ m.marks; many = cc; values = ((f, g), m.values); rest = m.rest; prefix = all }

pub marks_here : (count : ℕ) (bytes : List ℕ) → IsBytes bytes → 5 * count ≤ length bytes → MarksHere count bytes
marks_here zero bytes fits long = record { marks = []; many = refl; values = tt; rest = bytes; prefix = refl }
marks_here (suc count) bytes fits long =
    let n = byte_and_number_here bytes fits (omega (arith, long)) in
    let len : length bytes ≡ 5 + length n.rest = ap (λ (l : List ℕ). length l) n.prefix ∙ length-append (n.byte ∷ to_be_bytes w32 n.number) n.rest in
    let rest : IsBytes n.rest = rest_bytes bytes (n.byte ∷ to_be_bytes w32 n.number) n.rest fits n.prefix in
    mark_before count bytes n.rest n.byte n.number n.byte_value n.value n.prefix (marks_here count n.rest rest (omega (arith, len, long)))

-- ---- the prefix of a run and its symbols are a run, or one that is not lawful

-- the prefix of a run
pub begins : (bytes : List ℕ) (stamp parent : Stamp) (count : ℕ) (body : List ℕ) → bytes ≡ 4 ∷ stamp_spelling stamp ++ stamp_spelling parent ++ count ∷ body → BeginsRun bytes count body
begins bytes stamp parent count body e = record { stamps = stamp_spelling stamp ++ stamp_spelling parent; twenty = refl; prefix = e }

pub run_stands : (form : FeedForm) (stamp parent : Stamp) (count : ℕ) (symbols : List Symbol) → HasRuns form → IsRunLength count → length symbols ≡ count → AllByRecursion IsHeld (run_ops stamp parent symbols) → Stands form (Run stamp parent symbols)
run_stands form stamp parent count symbols runs within many each = (runs, record { count = subst (λ (n : ℕ). IsRunLength n) (sym many) within; each = each })

pub run_there : (bytes : List ℕ) (stamp parent : Stamp) (count : ℕ) (body rest : List ℕ) (symbols : List Symbol) → bytes ≡ 4 ∷ stamp_spelling stamp ++ stamp_spelling parent ++ count ∷ body → length symbols ≡ count → body ≡ flat_map symbol_spelling symbols ++ rest
    → bytes ≡ item_spelling (Run stamp parent symbols) ++ rest
run_there bytes stamp parent count body rest symbols e many b =
    e ∙ ap (λ (n : ℕ). 4 ∷ stamp_spelling stamp ++ stamp_spelling parent ++ n ∷ body) (sym many) ∙ ap (λ (l : List ℕ). 4 ∷ stamp_spelling stamp ++ stamp_spelling parent ++ length symbols ∷ l) b

pub run_unlawful : (form : FeedForm) (bytes : List ℕ) (stamp parent : Stamp) (count : ℕ) (body rest : List ℕ) (marks : List Mark) (first : Unlawful) → HasRuns form → IsStampValue stamp → IsStampValue parent
    → bytes ≡ 4 ∷ stamp_spelling stamp ++ stamp_spelling parent ++ count ∷ body → IsRunLength count → length marks ≡ count → AllByRecursion IsMarkValue marks → body ≡ flat_map mark_bytes marks ++ rest → run_cause stamp parent marks ≡ Err first → IsUnlawful form bytes first
run_unlawful form bytes stamp parent count body rest marks first runs s p e within many values b is =
    let most = within.1 in
    record {
      fields = RunOf stamp parent marks;
      values = (s, p, omega (arith, most, many), values);
      stands = (runs, subst (λ (n : ℕ). IsRunLength n) (sym many) within);
      rest = rest;
      prefix = e ∙ ap (λ (n : ℕ). 4 ∷ stamp_spelling stamp ++ stamp_spelling parent ++ n ∷ body) (sym many) ∙ ap (λ (l : List ℕ). 4 ∷ stamp_spelling stamp ++ stamp_spelling parent ++ length marks ∷ l) b;
      is = is;
    }
