-- A feed and a first fault: one of them, and one of each.
use Rattle.std.proofs.Common.{◌≡◌, ℕ, ◌+◌, List, [], ◌∷◌, ◌++◌, length, get_or, Option, Some, None, Result, Ok, Err, refl, sym, ap, subst, ◌∙◌, inl, inr, append_assoc, length-append, arith}
use Rattle.std.specs.List.{flat_map}
use Rattle.desk_ops.specs.declared.op.Stamp.{Stamp}
use Rattle.desk_ops.specs.declared.op.Op.{Op}
use Rattle.desk_ops.specs.declared.op.Unlawful.{Unlawful}
use Rattle.desk_codec.specs.declared.form.FeedForm.{FeedForm}
use Rattle.desk_codec.specs.declared.fields.Fields.{Fields}
use Rattle.desk_codec.specs.declared.fields.Fields.TheVariants.{Insert, Delete, Set}
use Rattle.desk_codec.specs.declared.fault.FeedWhy.{FeedWhy}
use Rattle.desk_codec.specs.declared.fault.FeedWhy.TheVariants as why
use Rattle.desk_codec.specs.declared.fault.FeedFault.{FeedFault}
use Rattle.desk_codec.specs.Spelling.{size_of_kind, stamp_spelling}
use Rattle.desk_codec.specs.Items.{Item, item_spelling}
use Rattle.desk_codec.specs.Feed.{IsRunLength, Stands, Spells, IsFeed}
use Rattle.desk_codec.specs.Fault.{bytes_of, Mark, mark_bytes, ItemFields, OneOf, RunOf, item_fields, item_bytes, MayStand, item_cause, HasNoKind, BeginsRun, IsNoRun, IsCutOp, IsCut, IsUnlawful, IsWrong, GoesWrong, IsFirstFault}
use Rattle.desk_codec.proofs.ItemLaws.{item_fields_same, item_bytes-fields, stands_values, may_stand, stands_cause, marks_length}
use Rattle.desk_codec.proofs.Grammar.{stands_free, one_form, no_item}

-- ---- kinds and counts

never_some : (n : ℕ) (o : Option ℕ) → o ≡ Some n → o ≡ None → ⊥
never_some n o s e = cc

pub same_some : (m n : ℕ) (o : Option ℕ) → o ≡ Some m → o ≡ Some n → m ≡ n
same_some m n o s e = cc

pub kind_is : (bytes : List ℕ) (j k : ℕ) (s t : List ℕ) → bytes ≡ j ∷ s → bytes ≡ k ∷ t → j ≡ k
kind_is bytes j k s t f g = ap (λ (l : List ℕ). get_or l 0 0) (sym f ∙ g)

append_tail : (a b x y : List ℕ) → length a ≡ length b → a ++ x ≡ b ++ y → x ≡ y
append_tail [] [] x y n e = e
append_tail [] (b ∷ bs) x y n e = absurd cc
append_tail (a ∷ xs) [] x y n e = absurd cc
append_tail (a ∷ xs) (b ∷ bs) x y n e =
    let rest : xs ++ x ≡ bs ++ y = cc in
    append_tail xs bs x y (omega (arith, n)) rest

-- a run's prefix has one count
pub one_count : (bytes : List ℕ) (m n : ℕ) (x y : List ℕ) → BeginsRun bytes m x → BeginsRun bytes n y → (m ≡ n) × (x ≡ y)
one_count bytes m n x y f g =
    let both : 4 ∷ f.stamps ++ m ∷ x ≡ 4 ∷ g.stamps ++ n ∷ y = sym f.prefix ∙ g.prefix in
    let rest : f.stamps ++ m ∷ x ≡ g.stamps ++ n ∷ y = cc in
    let end : m ∷ x ≡ n ∷ y = append_tail f.stamps g.stamps (m ∷ x) (n ∷ y) (f.twenty ∙ sym g.twenty) rest in
    (cc, cc)

pub begins_length : (bytes : List ℕ) (count : ℕ) (rest : List ℕ) → BeginsRun bytes count rest → length bytes ≡ 22 + length rest
begins_length bytes count rest h =
    let twenty = h.twenty in
    let len : length bytes ≡ 1 + length (h.stamps ++ count ∷ rest) = ap (λ (l : List ℕ). length l) h.prefix ∙ length-append (4 ∷ []) (h.stamps ++ count ∷ rest) in
    let inner : length (h.stamps ++ count ∷ rest) ≡ length h.stamps + length (count ∷ rest) = length-append h.stamps (count ∷ rest) in
    omega (arith, len, inner, twenty)

-- the bytes of a run begin so
pub run_begins : (bytes : List ℕ) (s p : Stamp) (marks : List Mark) (rest : List ℕ) → bytes ≡ item_bytes (RunOf s p marks) ++ rest → BeginsRun bytes (length marks) (flat_map mark_bytes marks ++ rest)
run_begins bytes s p marks rest e = record { stamps = stamp_spelling s ++ stamp_spelling p; twenty = refl; prefix = e }

-- ---- what stands at the start is one thing

fields_sized : (f : Fields) (rest t : List ℕ) (k : ℕ) → bytes_of f ++ rest ≡ k ∷ t → size_of_kind k ≡ Some (length (bytes_of f))
fields_sized (Insert s p y c) rest t k e = let one : 1 ≡ k = cc in subst (λ (n : ℕ). size_of_kind n ≡ Some 26) one refl
fields_sized (Delete s p) rest t k e = let two : 2 ≡ k = cc in subst (λ (n : ℕ). size_of_kind n ≡ Some 21) two refl
fields_sized (Set s j v) rest t k e = let three : 3 ≡ k = cc in subst (λ (n : ℕ). size_of_kind n ≡ Some 16) three refl

-- a run's kind has no size
pub run_no_size : (bytes : List ℕ) (k n : ℕ) (s t : List ℕ) → bytes ≡ 4 ∷ s → bytes ≡ k ∷ t → size_of_kind k ≡ Some n → ⊥
run_no_size bytes k n s t f g e =
    let four : 4 ≡ k = kind_is bytes 4 k s t f g in
    never_some n (size_of_kind 4) (ap size_of_kind four ∙ e) refl

not_kindless : (form : FeedForm) (bytes : List ℕ) (f : ItemFields) (rest : List ℕ) → MayStand form f → bytes ≡ item_bytes f ++ rest → HasNoKind form bytes → ⊥
not_kindless form bytes (OneOf f) rest m e h = never_some (length (bytes_of f)) (size_of_kind h.kind) (fields_sized f rest h.rest h.kind (sym e ∙ h.prefix)) h.none
not_kindless form bytes (RunOf s p marks) rest m e h =
    let begins = run_begins bytes s p marks rest e in
    h.no_run m.0 (kind_is bytes h.kind 4 h.rest (begins.stamps ++ length marks ∷ (flat_map mark_bytes marks ++ rest)) h.prefix begins.prefix)

op_not_cut : (bytes : List ℕ) (f : Fields) (rest : List ℕ) → bytes ≡ bytes_of f ++ rest → IsCutOp bytes → ⊥
op_not_cut bytes f rest e h =
    let size : length (bytes_of f) ≡ h.size = same_some (length (bytes_of f)) h.size (size_of_kind h.kind) (fields_sized f rest h.rest h.kind (sym e ∙ h.prefix)) h.some in
    let len : length bytes ≡ length (bytes_of f) + length rest = ap (λ (l : List ℕ). length l) e ∙ length-append (bytes_of f) rest in
    let short = h.short in
    omega (arith, size, len, short)

-- an operation's bytes begin no run
op_no_run : (bytes : List ℕ) (f : Fields) (rest t : List ℕ) → bytes ≡ bytes_of f ++ rest → bytes ≡ 4 ∷ t → ⊥
op_no_run bytes f rest t e h = never_some (length (bytes_of f)) (size_of_kind 4) (fields_sized f rest t 4 (sym e ∙ h)) refl

not_cut : (form : FeedForm) (bytes : List ℕ) (f : ItemFields) (rest : List ℕ) → MayStand form f → bytes ≡ item_bytes f ++ rest → IsCut form bytes → ⊥
not_cut form bytes (OneOf f) rest m e (inl h) = op_not_cut bytes f rest e h
not_cut form bytes (OneOf f) rest m e (inr (inl h)) = op_no_run bytes f rest h.rest e h.prefix
not_cut form bytes (OneOf f) rest m e (inr (inr h)) = op_no_run bytes f rest (h.prefix.stamps ++ h.count ∷ h.rest) e h.prefix.prefix
not_cut form bytes (RunOf s p marks) rest m e (inl h) =
    let begins = run_begins bytes s p marks rest e in
    run_no_size bytes h.kind h.size (begins.stamps ++ length marks ∷ (flat_map mark_bytes marks ++ rest)) h.rest begins.prefix h.prefix h.some
not_cut form bytes (RunOf s p marks) rest m e (inr (inl h)) =
    let len = begins_length bytes (length marks) (flat_map mark_bytes marks ++ rest) (run_begins bytes s p marks rest e) in
    let short = h.short in
    omega (arith, len, short)
not_cut form bytes (RunOf s p marks) rest m e (inr (inr h)) =
    let same = one_count bytes (length marks) h.count (flat_map mark_bytes marks ++ rest) h.rest (run_begins bytes s p marks rest e) h.prefix in
    let count = same.0 in
    let len : length h.rest ≡ length (flat_map mark_bytes marks) + length rest = ap (λ (l : List ℕ). length l) (sym same.1) ∙ length-append (flat_map mark_bytes marks) rest in
    let all = marks_length marks in
    let short = h.short in
    omega (arith, count, len, all, short)

not_miscounted : (form : FeedForm) (bytes : List ℕ) (f : ItemFields) (rest : List ℕ) → MayStand form f → bytes ≡ item_bytes f ++ rest → IsNoRun form bytes → ⊥
not_miscounted form bytes (OneOf f) rest m e h = op_no_run bytes f rest (h.prefix.stamps ++ h.count ∷ h.rest) e h.prefix.prefix
not_miscounted form bytes (RunOf s p marks) rest m e h =
    let same = one_count bytes (length marks) h.count (flat_map mark_bytes marks ++ rest) h.rest (run_begins bytes s p marks rest e) h.prefix in
    h.out (subst (λ (n : ℕ). IsRunLength n) same.0 m.1)

-- ---- what is wrong there is one thing

kind_or_cut : (form : FeedForm) (bytes : List ℕ) → HasNoKind form bytes → IsCut form bytes → ⊥
kind_or_cut form bytes f (inl g) =
    let k : f.kind ≡ g.kind = kind_is bytes f.kind g.kind f.rest g.rest f.prefix g.prefix in
    never_some g.size (size_of_kind g.kind) g.some (sym (ap size_of_kind k) ∙ f.none)
kind_or_cut form bytes f (inr (inl g)) = f.no_run g.runs (kind_is bytes f.kind 4 f.rest g.rest f.prefix g.prefix)
kind_or_cut form bytes f (inr (inr g)) = f.no_run g.runs (kind_is bytes f.kind 4 f.rest (g.prefix.stamps ++ g.count ∷ g.rest) f.prefix g.prefix.prefix)

kind_or_run : (form : FeedForm) (bytes : List ℕ) → HasNoKind form bytes → IsNoRun form bytes → ⊥
kind_or_run form bytes f g = f.no_run g.runs (kind_is bytes f.kind 4 f.rest (g.prefix.stamps ++ g.count ∷ g.rest) f.prefix g.prefix.prefix)

cut_or_run : (form : FeedForm) (bytes : List ℕ) → IsCut form bytes → IsNoRun form bytes → ⊥
cut_or_run form bytes (inl f) g = run_no_size bytes f.kind f.size (g.prefix.stamps ++ g.count ∷ g.rest) f.rest g.prefix.prefix f.prefix f.some
cut_or_run form bytes (inr (inl f)) g =
    let len = begins_length bytes g.count g.rest g.prefix in
    let short = f.short in
    omega (arith, len, short)
cut_or_run form bytes (inr (inr f)) g =
    let same = one_count bytes f.count g.count f.rest g.rest f.prefix g.prefix in
    g.out (subst (λ (n : ℕ). IsRunLength n) same.0 f.within)

same_cause : (u v : Unlawful) (r : Result (Unit {0}) Unlawful) → r ≡ Err u → r ≡ Err v → u ≡ v
same_cause u v r f g = cc

one_cause : (form : FeedForm) (bytes : List ℕ) (u v : Unlawful) → IsUnlawful form bytes u → IsUnlawful form bytes v → u ≡ v
one_cause form bytes u v f g =
    let same = item_fields_same f.fields g.fields f.rest g.rest f.values g.values (sym f.prefix ∙ g.prefix) in
    same_cause u v (item_cause g.fields) (sym (ap item_cause same.0) ∙ f.is) g.is

pub wrong_once : (form : FeedForm) (bytes : List ℕ) (v w : FeedWhy) → IsWrong form bytes v → IsWrong form bytes w → v ≡ w
wrong_once form bytes why.Magic w f g = absurd f
wrong_once form bytes why.Kind why.Magic f g = absurd g
wrong_once form bytes why.Kind why.Kind f g = refl
wrong_once form bytes why.Kind (why.Unlawful u) f g = absurd (not_kindless form bytes g.fields g.rest g.stands g.prefix f)
wrong_once form bytes why.Kind why.Cut f g = absurd (kind_or_cut form bytes f g)
wrong_once form bytes why.Kind why.Run f g = absurd (kind_or_run form bytes f g)
wrong_once form bytes (why.Unlawful u) why.Magic f g = absurd g
wrong_once form bytes (why.Unlawful u) why.Kind f g = absurd (not_kindless form bytes f.fields f.rest f.stands f.prefix g)
wrong_once form bytes (why.Unlawful u) (why.Unlawful v) f g = ap (λ (x : Unlawful). why.Unlawful x) (one_cause form bytes u v f g)
wrong_once form bytes (why.Unlawful u) why.Cut f g = absurd (not_cut form bytes f.fields f.rest f.stands f.prefix g)
wrong_once form bytes (why.Unlawful u) why.Run f g = absurd (not_miscounted form bytes f.fields f.rest f.stands f.prefix g)
wrong_once form bytes why.Cut why.Magic f g = absurd g
wrong_once form bytes why.Cut why.Kind f g = absurd (kind_or_cut form bytes g f)
wrong_once form bytes why.Cut (why.Unlawful u) f g = absurd (not_cut form bytes g.fields g.rest g.stands g.prefix f)
wrong_once form bytes why.Cut why.Cut f g = refl
wrong_once form bytes why.Cut why.Run f g = absurd (cut_or_run form bytes f g)
wrong_once form bytes why.Run why.Magic f g = absurd g
wrong_once form bytes why.Run why.Kind f g = absurd (kind_or_run form bytes g f)
wrong_once form bytes why.Run (why.Unlawful u) f g = absurd (not_miscounted form bytes g.fields g.rest g.stands g.prefix f)
wrong_once form bytes why.Run why.Cut f g = absurd (cut_or_run form bytes g f)
wrong_once form bytes why.Run why.Run f g = refl

never_both : (u : Unlawful) (r : Result (Unit {0}) Unlawful) → r ≡ Ok tt → r ≡ Err u → ⊥
never_both u r f g = cc

fields_there : (bytes rest : List ℕ) (item : Item) → bytes ≡ item_spelling item ++ rest → bytes ≡ item_bytes (item_fields item) ++ rest
fields_there bytes rest item e = e ∙ ap (λ (l : List ℕ). l ++ rest) (sym (item_bytes-fields item))

pub item_not_wrong : (form : FeedForm) (bytes rest : List ℕ) (item : Item) (w : FeedWhy) → Stands form item → bytes ≡ item_spelling item ++ rest → IsWrong form bytes w → ⊥
item_not_wrong form bytes rest item why.Magic held e h = h
item_not_wrong form bytes rest item why.Kind held e h = not_kindless form bytes (item_fields item) rest (may_stand form item held) (fields_there bytes rest item e) h
item_not_wrong form bytes rest item (why.Unlawful u) held e h =
    let same = item_fields_same (item_fields item) h.fields rest h.rest (stands_values form item held) h.values (sym (fields_there bytes rest item e) ∙ h.prefix) in
    never_both u (item_cause h.fields) (sym (ap item_cause same.0) ∙ stands_cause form item held) h.is
item_not_wrong form bytes rest item why.Cut held e h = not_cut form bytes (item_fields item) rest (may_stand form item held) (fields_there bytes rest item e) h
item_not_wrong form bytes rest item why.Run held e h = not_miscounted form bytes (item_fields item) rest (may_stand form item held) (fields_there bytes rest item e) h

no_fields : (f : Fields) (rest : List ℕ) → [] ≡ bytes_of f ++ rest → ⊥
no_fields (Insert s p y c) rest e = cc
no_fields (Delete s p) rest e = cc
no_fields (Set s k v) rest e = cc

no_item_fields : (f : ItemFields) (rest : List ℕ) → [] ≡ item_bytes f ++ rest → ⊥
no_item_fields (OneOf f) rest e = no_fields f rest e
no_item_fields (RunOf s p marks) rest e = cc

none_cut : (form : FeedForm) → IsCut form [] → ⊥
none_cut form (inl h) = let e = h.prefix in absurd cc
none_cut form (inr (inl h)) = let e = h.prefix in absurd cc
none_cut form (inr (inr h)) = let e = h.prefix.prefix in absurd cc

nothing_wrong : (form : FeedForm) (w : FeedWhy) → IsWrong form [] w → ⊥
nothing_wrong form why.Magic h = h
nothing_wrong form why.Kind h = let e = h.prefix in absurd cc
nothing_wrong form (why.Unlawful u) h = no_item_fields h.fields h.rest h.prefix
nothing_wrong form why.Cut h = none_cut form h
nothing_wrong form why.Run h = let e = h.prefix.prefix in absurd cc

-- ---- a whole feed, and a first fault

-- no list spells what goes wrong
pub never_spelled : (form : FeedForm) (bytes prefix rest : List ℕ) (items before : List Item) (w : FeedWhy) → Spells form bytes items → Spells form prefix before → bytes ≡ prefix ++ rest → IsWrong form rest w → ⊥
never_spelled form bytes prefix rest [] [] w f g e h =
    let none : rest ≡ [] = cc in nothing_wrong form w (subst (λ (l : List ℕ). IsWrong form l w) none h)
never_spelled form bytes prefix rest [] (y ∷ ys) w f g e h =
    no_item y (g.1.0 ++ rest) (sym f ∙ e ∙ ap (λ (l : List ℕ). l ++ rest) g.1.1 ∙ append_assoc (item_spelling y) g.1.0 rest)
never_spelled form bytes prefix rest (x ∷ xs) [] w f g e h =
    let whole : bytes ≡ rest = e ∙ ap (λ (l : List ℕ). l ++ rest) g in
    item_not_wrong form bytes f.1.0 x w f.0 f.1.1 (subst (λ (l : List ℕ). IsWrong form l w) (sym whole) h)
never_spelled form bytes prefix rest (x ∷ xs) (y ∷ ys) w f g e h =
    let both : item_spelling x ++ f.1.0 ≡ item_spelling y ++ (g.1.0 ++ rest) = sym f.1.1 ∙ e ∙ ap (λ (l : List ℕ). l ++ rest) g.1.1 ∙ append_assoc (item_spelling y) g.1.0 rest in
    let one = stands_free form x y f.1.0 (g.1.0 ++ rest) f.0 g.0 both in
    never_spelled form f.1.0 g.1.0 rest xs ys w f.1.2 g.1.2 one.1 h

-- what goes wrong does so at one place, in one way
pub wrong_at_once : (form : FeedForm) (a p b q : List ℕ) (xs ys : List Item) (v w : FeedWhy) → Spells form a xs → Spells form b ys → a ++ p ≡ b ++ q → IsWrong form p v → IsWrong form q w → (length a ≡ length b) × (v ≡ w)
wrong_at_once form a p b q [] [] v w f g e h i =
    let same : p ≡ q = ap (λ (l : List ℕ). l ++ p) (sym f) ∙ e ∙ ap (λ (l : List ℕ). l ++ q) g in
    (ap (λ (l : List ℕ). length l) (f ∙ sym g), wrong_once form q v w (subst (λ (l : List ℕ). IsWrong form l v) same h) i)
wrong_at_once form a p b q [] (y ∷ ys) v w f g e h i =
    let prefix : p ≡ item_spelling y ++ (g.1.0 ++ q) = ap (λ (l : List ℕ). l ++ p) (sym f) ∙ e ∙ ap (λ (l : List ℕ). l ++ q) g.1.1 ∙ append_assoc (item_spelling y) g.1.0 q in
    absurd (item_not_wrong form p (g.1.0 ++ q) y v g.0 prefix h)
wrong_at_once form a p b q (x ∷ xs) [] v w f g e h i =
    let prefix : q ≡ item_spelling x ++ (f.1.0 ++ p) = ap (λ (l : List ℕ). l ++ q) (sym g) ∙ sym e ∙ ap (λ (l : List ℕ). l ++ p) f.1.1 ∙ append_assoc (item_spelling x) f.1.0 p in
    absurd (item_not_wrong form q (f.1.0 ++ p) x w f.0 prefix i)
wrong_at_once form a p b q (x ∷ xs) (y ∷ ys) v w f g e h i =
    let both : item_spelling x ++ (f.1.0 ++ p) ≡ item_spelling y ++ (g.1.0 ++ q) =
    sym (append_assoc (item_spelling x) f.1.0 p) ∙ ap (λ (l : List ℕ). l ++ p) (sym f.1.1) ∙ e ∙ ap (λ (l : List ℕ). l ++ q) g.1.1 ∙ append_assoc (item_spelling y) g.1.0 q
    in
    let one = stands_free form x y (f.1.0 ++ p) (g.1.0 ++ q) f.0 g.0 both in
    let others = wrong_at_once form f.1.0 p g.1.0 q xs ys v w f.1.2 g.1.2 one.1 h i in
    let s = length-append (item_spelling x) f.1.0 in
    let t = length-append (item_spelling y) g.1.0 in
    let sizes : length (item_spelling x) ≡ length (item_spelling y) = ap (λ (o : Item). length (item_spelling o)) one.0 in
    let left : length a ≡ length (item_spelling x) + length f.1.0 = ap (λ (l : List ℕ). length l) f.1.1 ∙ s in
    let right : length b ≡ length (item_spelling y) + length g.1.0 = ap (λ (l : List ℕ). length l) g.1.1 ∙ t in
    (omega (arith, others.0, sizes, left, right), others.1)

pub not_both : (bytes : List ℕ) (ops : List Op) (fault : FeedFault) → IsFeed bytes ops → IsFirstFault bytes fault → ⊥
not_both bytes ops fault f (inl h) = h.none f.form f.rest f.prefix
not_both bytes ops fault f (inr h) =
    let same = one_form f.form h.0 f.rest h.1 (sym f.prefix ∙ h.2) in
    let there : Spells h.0 f.rest f.items = subst (λ (form : FeedForm). Spells form f.rest f.items) same.0 f.spells in
    let g = h.3 in
    never_spelled h.0 f.rest g.prefix g.rest f.items g.before fault.why there g.spells (same.1 ∙ g.split) g.wrong

fault_exact : (a b : FeedFault) → a.at ≡ b.at → a.why ≡ b.why → a ≡ b
fault_exact a b f g i = record { «at» = f i; why = g i }

both_wrong : (form : FeedForm) (x y : List ℕ) (a b : FeedFault) → x ≡ y → GoesWrong form 4 x a → GoesWrong form 4 y b → a ≡ b
both_wrong form x y a b e f g =
    let same : f.prefix ++ f.rest ≡ g.prefix ++ g.rest = sym f.split ∙ e ∙ g.split in
    let once = wrong_at_once form f.prefix f.rest g.prefix g.rest f.before g.before a.why b.why f.spells g.spells same f.wrong g.wrong in
    fault_exact a b (f.there ∙ ap (λ (n : ℕ). 4 + n) once.0 ∙ sym g.there) once.1

pub one_fault : (bytes : List ℕ) (a b : FeedFault) → IsFirstFault bytes a → IsFirstFault bytes b → a ≡ b
one_fault bytes a b (inl f) (inl g) = f.is ∙ sym g.is
one_fault bytes a b (inl f) (inr g) = absurd (f.none g.0 g.1 g.2)
one_fault bytes a b (inr f) (inl g) = absurd (g.none f.0 f.1 f.2)
one_fault bytes a b (inr f) (inr g) =
    let same = one_form f.0 g.0 f.1 g.1 (sym f.2 ∙ g.2) in
    both_wrong g.0 f.1 g.1 a b same.1 (subst (λ (form : FeedForm). GoesWrong form 4 f.1 a) same.0 f.3) g.3

pub prefixes_not_both : (form : FeedForm) (item : Item) (rest : List ℕ) (w : FeedWhy) → Stands form item → IsWrong form (item_spelling item ++ rest) w → ⊥
prefixes_not_both form item rest w held wrong = item_not_wrong form (item_spelling item ++ rest) rest item w held refl wrong
