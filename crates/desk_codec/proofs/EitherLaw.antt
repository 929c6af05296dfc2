-- Any bytes are a feed or have a first fault.
use Rattle.std.proofs.Common.{◌≡◌, ℕ, zero, suc, ◌+◌, ◌*◌, ◌<◌, ◌≤◌, List, [], ◌∷◌, ◌++◌, length, get_or, All, Some, None, refl, sym, ap, subst, ◌∙◌, ◌⊎◌, inl, inr, append_assoc, length-append, arith}
use Rattle.std.proofs.lemmas.Bool.{cases_eq, cases_lt}
use Rattle.std.proofs.lemmas.Bool.Decides.{nat_tests}
use Rattle.std.proofs.lemmas.List.{get_or_past, length-map}
use Rattle.std.specs.List.{flat_map}
use Rattle.desk_ops.specs.declared.op.Stamp.{Stamp}
use Rattle.desk_ops.specs.declared.op.Op.{Op}
use Rattle.desk_codec.specs.declared.form.FeedForm.{FeedForm}
use Rattle.desk_codec.specs.declared.form.FeedForm.TheVariants.{Singles, Runs}
use Rattle.desk_codec.specs.declared.fault.FeedWhy.{FeedWhy}
use Rattle.desk_codec.specs.declared.fault.FeedWhy.TheVariants as why
use Rattle.desk_codec.specs.declared.fault.FeedFault.{FeedFault}
use Rattle.desk_codec.specs.Spelling.{size_of_kind, stamp_spelling, spelling, IsStampValue}
use Rattle.desk_codec.specs.Items.{Item, One, Run, symbol_spelling, item_spelling}
use Rattle.desk_codec.specs.Feed.{magic_of, HasRuns, IsRunLength, Stands, Spells, ops_in, IsFeed}
use Rattle.desk_codec.specs.Fault.{bytes_of, Mark, mark_of, mark_bytes, OneOf, IsWrong, IsFirstFault}
use Rattle.desk_codec.specs.Laws.{ItemOrFault, FeedOrFault}
use Rattle.desk_codec.proofs.Numbers.{IsBytes}
use Rattle.desk_codec.proofs.FieldLaws.{bytes_of-fields}
use Rattle.desk_codec.proofs.ItemLaws.{symbols_bytes, item_length}
use Rattle.desk_codec.proofs.HereLaws.{FieldsHere, stamp_here, insert_here, delete_here, set_here, judged, run_judged, marks_here, rest_bytes, begins, run_stands, run_there, run_unlawful}
use Rattle.desk_codec.proofs.FaultLaws.{not_both, one_fault, prefixes_not_both, wrong_once}
use Rattle.desk_codec.proofs.PieceLaws.{short_magic}

-- ---- an item at the start, or something wrong

record ItemHere (form : FeedForm) (bytes : List ℕ) : Type 0 where
  item : Item
  stands : Stands form item
  rest : List ℕ
  prefix : bytes ≡ item_spelling item ++ rest

abbrev IsPrefix : FeedForm → List ℕ → Type 0
IsPrefix form bytes = ItemHere form bytes ⊎ ((w : FeedWhy) × IsWrong form bytes w)

from_fields : (form : FeedForm) (bytes : List ℕ) → FieldsHere bytes → IsPrefix form bytes
from_fields form bytes f =
    elim (judged f.fields f.values) [
      | inl h ↦
          let same : bytes_of f.fields ≡ spelling h.op = ap bytes_of (sym h.is) ∙ bytes_of-fields h.op in
          inl (record { item = One h.op; stands = h.held; rest = f.rest; prefix = f.prefix ∙ ap (λ (l : List ℕ). l ++ f.rest) same })
      | inr h ↦ inr (why.Unlawful h.0, record { fields = OneOf f.fields; values = f.values; stands = tt; rest = f.rest; prefix = f.prefix; is = h.1 })
    ]

no_size : (k : ℕ) → (k ≡ 1 → ⊥) → (k ≡ 2 → ⊥) → (k ≡ 3 → ⊥) → size_of_kind k ≡ None
no_size k a b c = grind (arith, nat_tests)

abbrev KindCases : ℕ → Type 0
KindCases k = ((k ≡ 1) ⊎ (k ≡ 2)) ⊎ ((k ≡ 3) ⊎ (size_of_kind k ≡ None))

kind_cases : (k : ℕ) → KindCases k
kind_cases k =
    elim (cases_eq k 1) [
      | inl e ↦ inl (inl e)
      | inr n1 ↦
          elim (cases_eq k 2) [
            | inl e ↦ inl (inr e)
            | inr n2 ↦
                elim (cases_eq k 3) [
                  | inl e ↦ inr (inl e)
                  | inr n3 ↦ inr (inr (no_size k n1 n2 n3))
                ]
          ]
    ]

prefix_of : (form : FeedForm) (k size : ℕ) (bytes : List ℕ) → size_of_kind k ≡ Some size → (size ≤ length (k ∷ bytes) → FieldsHere (k ∷ bytes)) → IsPrefix form (k ∷ bytes)
prefix_of form k size bytes e make =
    elim (cases_lt (length (k ∷ bytes)) size) [
      | inl short ↦ inr (why.Cut, inl (record { kind = k; rest = bytes; prefix = refl; size = size; some = e; short = short }))
      | inr long ↦ from_fields form (k ∷ bytes) (make long)
    ]

-- ---- a run at the start, or something wrong

record PrefixHere (bytes : List ℕ) : Type 0 where
  stamp : Stamp
  stamp_value : IsStampValue stamp
  parent : Stamp
  parent_value : IsStampValue parent
  count : ℕ
  rest : List ℕ
  prefix : bytes ≡ 4 ∷ stamp_spelling stamp ++ stamp_spelling parent ++ count ∷ rest
  fits : IsBytes rest

count_here : (bytes : List ℕ) (stamp parent : Stamp) (l : List ℕ) → IsStampValue stamp → IsStampValue parent → IsBytes l → 1 ≤ length l → bytes ≡ stamp_spelling stamp ++ (stamp_spelling parent ++ l) → PrefixHere (4 ∷ bytes)
count_here bytes stamp parent [] s p fits some e = absurd (omega arith)
count_here bytes stamp parent (c ∷ rest) s p fits some e =
    record { stamp = stamp; stamp_value = s; parent = parent; parent_value = p; count = c; rest = rest; prefix = ap (λ (l : List ℕ). 4 ∷ l) e; fits = λ i. fits (suc i) }

prefix_here : (bytes : List ℕ) → IsBytes bytes → 21 ≤ length bytes → PrefixHere (4 ∷ bytes)
prefix_here bytes fits long =
    let s = stamp_here bytes fits (omega (arith, long)) in
    let ten = s.len in
    let p = stamp_here s.rest s.fits (omega (arith, long, ten)) in
    let twenty = p.len in
    count_here bytes s.stamp p.stamp p.rest s.value p.value p.fits (omega (arith, long, ten, twenty)) (s.prefix ∙ ap (λ (l : List ℕ). stamp_spelling s.stamp ++ l) p.prefix)

run_here : (form : FeedForm) (bytes : List ℕ) → HasRuns form → (h : PrefixHere bytes) → IsRunLength h.count → 5 * h.count ≤ length h.rest → IsPrefix form bytes
run_here form bytes runs h within long =
    let m = marks_here h.count h.rest h.fits long in
    elim (run_judged m.marks h.stamp h.parent h.stamp_value h.parent_value m.values) [
      | inl r ↦
          let many : length r.symbols ≡ h.count = sym (length-map r.symbols mark_of) ∙ ap (λ (l : List Mark). length l) r.are ∙ m.many in
          let body : h.rest ≡ flat_map symbol_spelling r.symbols ++ m.rest = m.prefix ∙ ap (λ (l : List ℕ). l ++ m.rest) (ap (λ (l : List Mark). flat_map mark_bytes l) (sym r.are) ∙ symbols_bytes r.symbols) in
          inl (record {
            item = Run h.stamp h.parent r.symbols;
            stands = run_stands form h.stamp h.parent h.count r.symbols runs within many r.each;
            rest = m.rest;
            prefix = run_there bytes h.stamp h.parent h.count h.rest m.rest r.symbols h.prefix many body;
          })
      | inr u ↦ inr (why.Unlawful u.0, run_unlawful form bytes h.stamp h.parent h.count h.rest m.rest m.marks u.0 runs h.stamp_value h.parent_value h.prefix within m.many m.values m.prefix u.1)
    ]

run_prefix : (form : FeedForm) (bytes : List ℕ) → HasRuns form → PrefixHere bytes → IsPrefix form bytes
run_prefix form bytes runs h =
    let prefix = begins bytes h.stamp h.parent h.count h.rest h.prefix in
    elim (cases_lt h.count 2) [
      | inl few ↦ inr (why.Run, record { runs = runs; count = h.count; rest = h.rest; prefix = prefix; out = λ within. let least = within.0 in omega (arith, few, least) })
      | inr least ↦
          elim (cases_lt 64 h.count) [
            | inl many ↦ inr (why.Run, record { runs = runs; count = h.count; rest = h.rest; prefix = prefix; out = λ within. let most = within.1 in omega (arith, many, most) })
            | inr most ↦
                elim (cases_lt (length h.rest) (5 * h.count)) [
                  | inl short ↦ inr (why.Cut, inr (inr (record { runs = runs; count = h.count; rest = h.rest; prefix = prefix; within = (least, most); short = short })))
                  | inr long ↦ run_here form bytes runs h (least, most) long
                ]
          ]
    ]

four_prefix : (form : FeedForm) (bytes : List ℕ) → IsBytes bytes → IsPrefix form (4 ∷ bytes)
four_prefix Singles bytes fits = inr (why.Kind, record { kind = 4; rest = bytes; prefix = refl; none = refl; no_run = λ runs e. runs })
four_prefix Runs bytes fits =
    elim (cases_lt (length (4 ∷ bytes)) 22) [
      | inl short ↦ inr (why.Cut, inr (inl (record { runs = tt; rest = bytes; prefix = refl; short = short })))
      | inr long ↦ run_prefix Runs (4 ∷ bytes) tt (prefix_here bytes fits (omega (arith, long)))
    ]

prefix : (form : FeedForm) (bytes : List ℕ) → IsBytes bytes → 0 < length bytes → IsPrefix form bytes
prefix form [] fits some = absurd (omega arith)
prefix form (k ∷ bytes) fits some =
    let rest : IsBytes bytes = λ i. fits (suc i) in
    elim (kind_cases k) [
      | inl (inl e) ↦ subst (λ (n : ℕ). IsPrefix form (n ∷ bytes)) (sym e) (prefix_of form 1 26 bytes refl (λ long. insert_here bytes rest (omega arith)))
      | inl (inr e) ↦ subst (λ (n : ℕ). IsPrefix form (n ∷ bytes)) (sym e) (prefix_of form 2 21 bytes refl (λ long. delete_here bytes rest (omega arith)))
      | inr (inl e) ↦ subst (λ (n : ℕ). IsPrefix form (n ∷ bytes)) (sym e) (prefix_of form 3 16 bytes refl (λ long. set_here bytes rest (omega arith)))
      | inr (inr e) ↦
          elim (cases_eq k 4) [
            | inl four ↦ subst (λ (n : ℕ). IsPrefix form (n ∷ bytes)) (sym four) (four_prefix form bytes rest)
            | inr other ↦ inr (why.Kind, record { kind = k; rest = bytes; prefix = refl; none = e; no_run = λ runs four. other four })
          ]
    ]

-- ---- items to the end, or to where something is wrong

record Stops (form : FeedForm) (bytes : List ℕ) : Type 0 where
  before : List Item
  prefix : List ℕ
  spells : Spells form prefix before
  rest : List ℕ
  split : bytes ≡ prefix ++ rest
  w : FeedWhy
  wrong : IsWrong form rest w

abbrev IsRead : FeedForm → List ℕ → Type 0
IsRead form bytes = ((items : List Item) × Spells form bytes items) ⊎ Stops form bytes

after_item : (form : FeedForm) (bytes : List ℕ) (h : ItemHere form bytes) → IsRead form h.rest → IsRead form bytes
after_item form bytes h (inl r) = inl (h.item ∷ r.0, (h.stands, (h.rest, h.prefix, r.1)))
after_item form bytes h (inr r) = inr (record {
  before = h.item ∷ r.before;
  prefix = item_spelling h.item ++ r.prefix;
  spells = (h.stands, (r.prefix, refl, r.spells));
  rest = r.rest;
  split = h.prefix ∙ ap (λ (l : List ℕ). item_spelling h.item ++ l) r.split ∙ sym (append_assoc (item_spelling h.item) r.prefix r.rest);
  w = r.w;
  wrong = r.wrong;
})

read_on : (form : FeedForm) (n : ℕ) (bytes : List ℕ) → length bytes ≤ n → IsBytes bytes → IsRead form bytes
read_on form zero [] le fits = inl ([], refl)
read_on form zero (k ∷ bytes) le fits = absurd (omega arith)
read_on form (suc n) [] le fits = inl ([], refl)
read_on form (suc n) (k ∷ bytes) le fits =
    elim (prefix form (k ∷ bytes) fits (omega arith)) [
      | inl h ↦
          let len : length (k ∷ bytes) ≡ length (item_spelling h.item) + length h.rest = ap (λ (l : List ℕ). length l) h.prefix ∙ length-append (item_spelling h.item) h.rest in
          let some = item_length h.item in
          after_item form (k ∷ bytes) h (read_on form n h.rest (omega arith) (rest_bytes (k ∷ bytes) (item_spelling h.item) h.rest fits h.prefix))
      | inr h ↦ inr (record { before = []; prefix = []; spells = refl; rest = k ∷ bytes; split = refl; w = h.0; wrong = h.1 })
    ]

abbrev HasMagic : List ℕ → Type 0
HasMagic bytes = ((form : FeedForm) × (rest : List ℕ) × (bytes ≡ magic_of form ++ rest)) ⊎ ((form : FeedForm) (rest : List ℕ) → bytes ≡ magic_of form ++ rest → ⊥)

-- the four bytes of a magic
four_of : (form : FeedForm) (bytes rest : List ℕ) → bytes ≡ magic_of form ++ rest → (4 ≤ length bytes) × (get_or bytes 0 0 ≡ 77) × (get_or bytes 1 0 ≡ 70) × (get_or bytes 2 0 ≡ 68) × ((get_or bytes 3 0 ≡ 49) ⊎ (get_or bytes 3 0 ≡ 50))
four_of Singles bytes rest e =
    let len : length bytes ≡ 4 + length rest = ap (λ (l : List ℕ). length l) e ∙ length-append (magic_of Singles) rest in
    (omega (arith, len), ap (λ (l : List ℕ). get_or l 0 0) e, ap (λ (l : List ℕ). get_or l 1 0) e, ap (λ (l : List ℕ). get_or l 2 0) e, inl (ap (λ (l : List ℕ). get_or l 3 0) e))
four_of Runs bytes rest e =
    let len : length bytes ≡ 4 + length rest = ap (λ (l : List ℕ). length l) e ∙ length-append (magic_of Runs) rest in
    (omega (arith, len), ap (λ (l : List ℕ). get_or l 0 0) e, ap (λ (l : List ℕ). get_or l 1 0) e, ap (λ (l : List ℕ). get_or l 2 0) e, inr (ap (λ (l : List ℕ). get_or l 3 0) e))

neither : (n : ℕ) → (n ≡ 49 → ⊥) → (n ≡ 50 → ⊥) → (n ≡ 49) ⊎ (n ≡ 50) → ⊥
neither n f g (inl e) = f e
neither n f g (inr e) = g e

has_magic : (bytes : List ℕ) → HasMagic bytes
has_magic [] = inr (λ form rest e. short_magic form [] rest (omega arith) e)
has_magic (a ∷ []) = inr (λ form rest e. short_magic form (a ∷ []) rest (omega arith) e)
has_magic (a ∷ b ∷ []) = inr (λ form rest e. short_magic form (a ∷ b ∷ []) rest (omega arith) e)
has_magic (a ∷ b ∷ c ∷ []) = inr (λ form rest e. short_magic form (a ∷ b ∷ c ∷ []) rest (omega arith) e)
has_magic (a ∷ b ∷ c ∷ d ∷ rest) =
    elim (cases_eq a 77) [
      | inr n ↦ inr (λ form more e. n ((four_of form (a ∷ b ∷ c ∷ d ∷ rest) more e).1))
      | inl ea ↦
          elim (cases_eq b 70) [
            | inr n ↦ inr (λ form more e. n ((four_of form (a ∷ b ∷ c ∷ d ∷ rest) more e).2))
            | inl eb ↦
                elim (cases_eq c 68) [
                  | inr n ↦ inr (λ form more e. n ((four_of form (a ∷ b ∷ c ∷ d ∷ rest) more e).3))
                  | inl ec ↦
                      elim (cases_eq d 49) [
                        | inl ed ↦ inl (Singles, rest, cc)
                        | inr n ↦
                            elim (cases_eq d 50) [
                              | inl ed ↦ inl (Runs, rest, cc)
                              | inr m ↦ inr (λ form more e. neither d n m ((four_of form (a ∷ b ∷ c ∷ d ∷ rest) more e).4))
                            ]
                      ]
                ]
          ]
    ]

all_bytes : (bytes : List ℕ) → All (λ b. b < 256) bytes → IsBytes bytes
all_bytes bytes all i =
    elim (cases_lt i (length bytes)) [
      | inl lt ↦ all i 0 lt
      | inr le ↦ rw (get_or_past bytes i 0 le) (omega arith)
    ]

after_magic : (form : FeedForm) (bytes rest : List ℕ) → bytes ≡ magic_of form ++ rest → IsRead form rest → ((ops : List Op) × IsFeed bytes ops) ⊎ ((fault : FeedFault) × IsFirstFault bytes fault)
after_magic form bytes rest e (inl r) = inl (ops_in r.0, record { form = form; items = r.0; rest = rest; prefix = e; spells = r.1; joined = refl })
after_magic form bytes rest e (inr r) =
    inr (record { «at» = 4 + length r.prefix; why = r.w }, inr (form, rest, e, record { before = r.before; prefix = r.prefix; spells = r.spells; rest = r.rest; split = r.split; there = refl; wrong = r.wrong }))

either : (bytes : List ℕ) → All (λ b. b < 256) bytes → ((ops : List Op) × IsFeed bytes ops) ⊎ ((fault : FeedFault) × IsFirstFault bytes fault)
either bytes all =
    elim (has_magic bytes) [
      | inl h ↦ after_magic h.0 bytes h.1 h.2 (read_on h.0 (length h.1) h.1 (omega arith) (rest_bytes bytes (magic_of h.0) h.1 (all_bytes bytes all) h.2))
      | inr none ↦ inr (record { «at» = 0; why = why.Magic }, inl (record { none = none; is = refl }))
    ]

pub feed_or_fault : FeedOrFault
feed_or_fault = record { either = either; not_both = not_both; one_fault = one_fault }

each_prefix : (form : FeedForm) (bytes : List ℕ) → IsPrefix form bytes → ((item : Item) × Stands form item × ((rest : List ℕ) × (bytes ≡ item_spelling item ++ rest))) ⊎ ((w : FeedWhy) × IsWrong form bytes w)
each_prefix form bytes (inl h) = inl (h.item, h.stands, (h.rest, h.prefix))
each_prefix form bytes (inr h) = inr h

pub item_or_fault : ItemOrFault
item_or_fault = record {
  either = λ form bytes all some. each_prefix form bytes (prefix form bytes (all_bytes bytes all) some);
  not_both = prefixes_not_both;
  one = wrong_once;
}
