-- Items read one after the other, from the bytes that were kept and a piece.
use Rattle.std.proofs.Common.{◌≡◌, ◌≢◌, ℕ, ◌+◌, ◌-◌, ◌<◌, ◌≤◌, min, Bool, false, List, [], ◌∷◌, ◌++◌, length, get_or, drop, Option, Some, None, Result, Ok, Err, refl, sym, ap, subst, ◌∙◌, ◌⊎◌, inl, inr, append_assoc, length-append, arith}
use Rattle.std.specs.Prelude.{IfOk, IfErr, MatchOption}
use Rattle.std.proofs.lemmas.List.{append-nil, drop-append-le, nil_from_length}
use Rattle.std.proofs.lemmas.List.Concat.{flat_map-cons}
use Rattle.std.proofs.lemmas.Grind.{flat_map-append}
use Rattle.std.proofs.lemmas.Bool.{cases_lt}
use Rattle.std.proofs.lemmas.Bool.Decides.{nat_tests}
use Rattle.std.proofs.Math.Seq.{drop-append-add}
use Rattle.desk_ops.specs.declared.op.Op.{Op}
use Rattle.desk_codec.specs.declared.form.FeedForm.{FeedForm}
use Rattle.desk_codec.specs.declared.fault.FeedWhy.{FeedWhy}
use Rattle.desk_codec.specs.declared.fault.FeedWhy.TheVariants as why
use Rattle.desk_codec.specs.declared.fault.FeedFault.{FeedFault}
use Rattle.desk_codec.specs.Items.{Item, item_ops, item_spelling}
use Rattle.desk_codec.specs.Spelling.{size_of_kind}
use Rattle.desk_codec.specs.Feed.{magic_of, Stands, Spells, ops_in}
use Rattle.desk_codec.specs.Fault.{IsCut, IsWrong, GoesWrong}
use Rattle.desk_codec.specs.Gathered.{Adds}
use Rattle.desk_codec.specs.ItemReading.{GivesItem, GivesItems, GivesRest}
use Rattle.desk_codec.specs.Pieces.{Reader, place_of, IsUnended, Reads, ShowsFirst, MayHoldMore, LacksMemory}
use Rattle.desk_codec.specs.PieceReading.{ReadsSo, StopsOn, kept_after}
use Rattle.desk_codec.proofs.GatheredLaws.{adds_none, adds_then}
use Rattle.desk_codec.proofs.Grammar.{spells_append, one_form}
use Rattle.desk_codec.proofs.ItemLaws.{item_length}
use Rattle.desk_codec.proofs.FaultLaws.{item_not_wrong, begins_length, never_spelled, wrong_at_once}
use Rattle.desk_codec.proofs.PieceLaws.{wrong_on, goes_after}

-- ---- items after items

one_ops : (item : Item) → item_ops item ≡ ops_in (item ∷ [])
one_ops item = sym (append-nil (item_ops item)) ∙ sym (flat_map-cons item_ops item [])

pub none_given : (form : FeedForm) (bytes : List ℕ) (ops : Option (List Op)) → GivesItems form bytes ops ops bytes
none_given form bytes ops = record { items = []; prefix = []; spells = refl; is = adds_none ops; split = refl }

pub one_given : (form : FeedForm) (bytes rest : List ℕ) (before after : Option (List Op)) → GivesItem form bytes before after rest → GivesItems form bytes before after rest
one_given form bytes rest before after h =
    record {
      items = h.item ∷ [];
      prefix = item_spelling h.item;
      spells = (h.stands, ([], sym (append-nil (item_spelling h.item)), refl));
      is = subst (λ (l : List Op). Adds before after l) (one_ops h.item) h.is;
      split = h.prefix;
    }

pub both_given : (form : FeedForm) (bytes middle rest : List ℕ) (before between after : Option (List Op)) → GivesItems form bytes before between middle → GivesItems form middle between after rest → GivesItems form bytes before after rest
both_given form bytes middle rest before between after f g =
    record {
      items = f.items ++ g.items;
      prefix = f.prefix ++ g.prefix;
      spells = spells_append form f.prefix g.prefix f.items g.items f.spells g.spells;
      is = subst (λ (l : List Op). Adds before after l) (sym (flat_map-append item_ops f.items g.items)) (adds_then before between after (ops_in f.items) (ops_in g.items) f.is g.is);
      split = f.split ∙ ap (λ (l : List ℕ). f.prefix ++ l) g.split ∙ sym (append_assoc f.prefix g.prefix rest);
    }

pub more_given : (form : FeedForm) (bytes middle rest : List ℕ) (before between after : Option (List Op)) → GivesItems form bytes before between middle → GivesItem form middle between after rest → GivesItems form bytes before after rest
more_given form bytes middle rest before between after f g = both_given form bytes middle rest before between after f (one_given form middle rest between after g)

-- an item takes bytes
pub item_shorter : (form : FeedForm) (bytes rest : List ℕ) (before after : Option (List Op)) → GivesItem form bytes before after rest → length rest < length bytes
item_shorter form bytes rest before after h =
    let len : length bytes ≡ length (item_spelling h.item) + length rest = ap (λ (l : List ℕ). length l) h.prefix ∙ length-append (item_spelling h.item) rest in
    let some = item_length h.item in
    omega (arith, len, some)

pub given_length : (form : FeedForm) (bytes rest : List ℕ) (before after : Option (List Op)) → (h : GivesItems form bytes before after rest) → length bytes ≡ length h.prefix + length rest
given_length form bytes rest before after h = ap (λ (l : List ℕ). length l) h.split ∙ length-append h.prefix rest

-- what goes wrong after items
pub goes_then : (form : FeedForm) (place : ℕ) (bytes rest : List ℕ) (before after : Option (List Op)) (fault : FeedFault) → GivesItems form bytes before after rest → GoesWrong form (place + (length bytes - length rest)) rest fault → GoesWrong form place bytes fault
goes_then form place bytes rest before after fault h wrong =
    let len = given_length form bytes rest before after h in
    let there : place + (length bytes - length rest) ≡ place + length h.prefix = omega (arith, len) in
    subst (λ (l : List ℕ). GoesWrong form place l fault) (sym h.split) (goes_after form place h.prefix rest h.items fault h.spells (subst (λ (n : ℕ). GoesWrong form n rest fault) there wrong))

-- where reading stops
pub reads_given : (form : FeedForm) (bytes rest : List ℕ) (before after : Option (List Op)) → (h : GivesItems form bytes before after rest) → IsUnended form rest → Reads (Some form) bytes (ops_in h.items) form rest
reads_given form bytes rest before after h end = record { agrees = refl; items = h.items; prefix = h.prefix; spells = h.spells; joined = refl; split = h.split; unended = end }

pub goes_astray : (form : FeedForm) (place : ℕ) (bytes : List ℕ) (fault : FeedFault) → GoesWrong form place bytes fault → fault.why ≢ why.Cut → ShowsFirst (Some form) place bytes fault
goes_astray form place bytes fault wrong whole =
    let here : place + 0 ≡ place = omega arith in
    inr (record { form = form; agrees = refl; body = bytes; split = refl; wrong = subst (λ (n : ℕ). GoesWrong form n bytes fault) (sym here) wrong; whole = whole })

pub holds_more : (form : FeedForm) (bytes : List ℕ) → 16 ≤ length bytes → MayHoldMore (Some form) bytes
holds_more form bytes long = record { form = form; body = bytes; split = refl; long = long }

-- ---- an item whose prefix was kept

prefix_of : (kept end prefix rest : List ℕ) → length prefix ≤ length kept → kept ++ end ≡ prefix ++ rest → kept ≡ prefix ++ drop (length prefix) kept
prefix_of kept end [] rest le e = refl
prefix_of [] end (f ∷ prefix) rest le e = absurd (omega arith)
prefix_of (k ∷ kept) end (f ∷ prefix) rest le e =
    let first : k ≡ f = ap (λ (l : List ℕ). get_or l 0 0) e in
    let others : kept ++ end ≡ prefix ++ rest = ap (λ (l : List ℕ). drop 1 l) e in
    let rest_is = prefix_of kept end prefix rest (omega (arith, le)) others in
    ap (λ (l : List ℕ). k ∷ l) rest_is ∙ ap (λ (n : ℕ). n ∷ prefix ++ drop (length prefix) kept) first

-- the prefix is shorter than the item
cut_shorter : (form : FeedForm) (kept end rest : List ℕ) (item : Item) → IsCut form kept → Stands form item → kept ++ end ≡ item_spelling item ++ rest → length kept < length (item_spelling item)
cut_shorter form kept end rest item cut stands e =
    elim (cases_lt (length kept) (length (item_spelling item))) [
      | inl lt ↦ lt
      | inr le ↦ absurd (item_not_wrong form kept (drop (length (item_spelling item)) kept) item why.Cut stands (prefix_of kept end (item_spelling item) rest le e) cut)
    ]

most : (k n : ℕ) → size_of_kind k ≡ Some n → n ≤ 26
most k n e = grind (arith, nat_tests)

-- the longest run that is cut takes fewer than 342 bytes
pub cut_length : (form : FeedForm) (bytes : List ℕ) → IsCut form bytes → length bytes < 342
cut_length form bytes (inl h) = let few = most h.kind h.size h.some in let short = h.short in omega (arith, few, short)
cut_length form bytes (inr (inl h)) = let short = h.short in omega (arith, short)
cut_length form bytes (inr (inr h)) =
    let len = begins_length bytes h.count h.rest h.prefix in
    let short = h.short in
    let many = h.within.1 in
    omega (arith, len, short, many)

pub unended_length : (form : FeedForm) (bytes : List ℕ) → IsUnended form bytes → length bytes ≤ 342
unended_length form bytes (inl none) = let zero : length bytes ≡ 0 = ap (λ (l : List ℕ). length l) none in omega (arith, zero)
unended_length form bytes (inr cut) = let short = cut_length form bytes cut in omega (arith, short)

-- the rest of the joined bytes ends the piece
rest_of_piece : (kept piece end beyond rest whole prefix : List ℕ) → piece ≡ end ++ beyond → whole ≡ kept ++ end → whole ≡ prefix ++ rest → length kept ≤ length prefix → kept ++ piece ≡ prefix ++ drop (length end - length rest) piece
rest_of_piece kept piece end beyond rest whole prefix p w f le =
    let lens : length kept + length end ≡ length prefix + length rest = sym (length-append kept end) ∙ ap (λ (l : List ℕ). length l) (sym w ∙ f) ∙ length-append prefix rest in
    let n : length kept + (length end - length rest) ≡ length prefix + 0 = omega (arith, lens, le) in
    let tail : drop (length end - length rest) end ≡ rest =
    sym (drop-append-add kept end (length end - length rest)) ∙ ap (λ (m : ℕ). drop m (kept ++ end)) n ∙ ap (λ (l : List ℕ). drop (length prefix + 0) l) (sym w ∙ f) ∙ drop-append-add prefix rest 0
    in
    let within : length end - length rest ≤ length end = omega arith in
    let after : drop (length end - length rest) piece ≡ rest ++ beyond = ap (λ (l : List ℕ). drop (length end - length rest) l) p ∙ drop-append-le (length end - length rest) end beyond within ∙ ap (λ (l : List ℕ). l ++ beyond) tail in
    ap (λ (l : List ℕ). kept ++ l) p ∙ sym (append_assoc kept end beyond) ∙ ap (λ (l : List ℕ). l ++ beyond) (sym w ∙ f) ∙ append_assoc prefix rest beyond ∙ ap (λ (l : List ℕ). prefix ++ l) (sym after)

-- so much of the piece is left
pub rest_within : (form : FeedForm) (kept end rest whole : List ℕ) (before after : Option (List Op)) → IsCut form kept → whole ≡ kept ++ end → GivesItem form whole before after rest → length rest ≤ length end
rest_within form kept end rest whole before after cut w h =
    let shorter = cut_shorter form kept end rest h.item cut h.stands (sym w ∙ h.prefix) in
    let lens : length kept + length end ≡ length (item_spelling h.item) + length rest = sym (length-append kept end) ∙ ap (λ (l : List ℕ). length l) (sym w ∙ h.prefix) ∙ length-append (item_spelling h.item) rest in
    omega (arith, shorter, lens)

pub first_given : (form : FeedForm) (kept piece end beyond rest whole left : List ℕ) (before after : Option (List Op)) → IsCut form kept → piece ≡ end ++ beyond → whole ≡ kept ++ end → left ≡ drop (length end - length rest) piece → GivesItem form whole before after rest → GivesItem form (kept ++ piece) before after left
first_given form kept piece end beyond rest whole left before after cut p w l h =
    let shorter = cut_shorter form kept end rest h.item cut h.stands (sym w ∙ h.prefix) in
    let e = rest_of_piece kept piece end beyond rest whole (item_spelling h.item) p w h.prefix (omega (arith, shorter)) in
    record { item = h.item; stands = h.stands; is = h.is; prefix = e ∙ ap (λ (m : List ℕ). item_spelling h.item ++ m) (sym l) }

full_cut : (form : FeedForm) (bytes : List ℕ) → IsCut form bytes → 342 ≤ length bytes → ⊥
full_cut form bytes h full = let short = cut_length form bytes h in omega (arith, short, full)

-- what is wrong with as many bytes as fit is wrong with all
pub wrong_all : (form : FeedForm) (kept piece end beyond whole : List ℕ) (w : FeedWhy) → piece ≡ end ++ beyond → whole ≡ kept ++ end → (length beyond ≡ 0) ⊎ (342 ≤ length whole) → IsWrong form whole w → IsWrong form (kept ++ piece) w
wrong_all form kept piece end beyond whole w p e (inl none) h =
    let nil : beyond ≡ [] = nil_from_length beyond none in
    let all : whole ≡ kept ++ piece = e ∙ ap (λ (l : List ℕ). kept ++ l) (sym (append-nil end) ∙ ap (λ (l : List ℕ). end ++ l) (sym nil) ∙ sym p) in
    subst (λ (l : List ℕ). IsWrong form l w) all h
wrong_all form kept piece end beyond whole w p e (inr full) h =
    let all : whole ++ beyond ≡ kept ++ piece = ap (λ (l : List ℕ). l ++ beyond) e ∙ append_assoc kept end beyond ∙ ap (λ (l : List ℕ). kept ++ l) (sym p) in
    subst (λ (l : List ℕ). IsWrong form l w) all (wrong_on form whole beyond w (λ is. full_cut form whole (subst (λ (v : FeedWhy). IsWrong form whole v) is h) full) h)

-- ---- a whole piece

-- a list was begun with nothing in it, or refused its room, which bytes enough for an item take alone
abbrev pub IsBegun : List ℕ → Option (List Op) → Type 0
IsBegun bytes ops = MatchOption ops (16 ≤ length bytes) (λ ops. ops ≡ [])

pub begun : (most : ℕ) (bytes : List ℕ) (ops : Option (List Op)) → (most ≢ 0 → 16 ≤ length bytes) → MatchOption ops (most ≢ 0) (λ ops. ops ≡ []) → IsBegun bytes ops
begun most bytes (Some ops) long h = h
begun most bytes None long h = long h

-- items with an operation take bytes
spells_long : (form : FeedForm) (prefix : List ℕ) (items : List Item) → Spells form prefix items → 0 < length (ops_in items) → 16 ≤ length prefix
spells_long form prefix [] h some = absurd (omega (arith, some))
spells_long form prefix (item ∷ items) h some =
    let len : length prefix ≡ length (item_spelling item) + length h.1.0 = ap (λ (l : List ℕ). length l) h.1.1 ∙ length-append (item_spelling item) h.1.0 in
    let long = item_length item in
    omega (arith, len, long)

reads_so : (form : FeedForm) (bytes kept : List ℕ) (before after : Option (List Op)) → IsBegun bytes before → GivesItems form bytes before after kept → IsUnended form kept → ReadsSo (Some form) bytes after form kept
reads_so form bytes kept (Some before) (Some after) b h end =
    subst (λ (l : List Op). Reads (Some form) bytes l form kept) (sym (h.is ∙ ap (λ (l : List Op). l ++ ops_in h.items) b)) (reads_given form bytes kept (Some before) (Some after) h end)
reads_so form bytes kept (Some before) None b h end =
    let len = given_length form bytes kept (Some before) None h in
    let long = spells_long form h.prefix h.items h.spells h.is in
    (holds_more form bytes (omega (arith, len, long)), (ops_in h.items, reads_given form bytes kept (Some before) None h end))
reads_so form bytes kept None (Some after) b h end = absurd h.is
reads_so form bytes kept None None b h end = (holds_more form bytes b, (ops_in h.items, reads_given form bytes kept None None h end))

-- no item was made whole
pub cut_reads : (form : FeedForm) (bytes : List ℕ) (before after : Option (List Op)) → IsBegun bytes before → after ≡ before → IsCut form bytes → ReadsSo (Some form) bytes after form bytes
cut_reads form bytes before after b same cut = reads_so form bytes bytes before after b (subst (λ (o : Option (List Op)). GivesItems form bytes before o bytes) (sym same) (none_given form bytes before)) (inr cut)

rest_reads : (form read : FeedForm) (bytes kept : List ℕ) (before after : Option (List Op)) → IsBegun bytes before → GivesRest form bytes before read after kept → ReadsSo (Some form) bytes after read kept
rest_reads form read bytes kept before after b h = subst (λ (g : FeedForm). ReadsSo (Some form) bytes after g kept) h.same (reads_so form bytes kept before after b h.items h.unended)

-- what is kept takes the place of what was
in_place : (b : Bool) (before : Option FeedForm) (bytes kept rest : List ℕ) (ops : Option (List Op)) (form : FeedForm) → b ≡ false → ReadsSo before bytes ops form rest → ReadsSo before bytes ops form (kept_after b kept rest)
in_place b before bytes kept rest ops form e h = subst (λ (t : Bool). ReadsSo before bytes ops form (kept_after t kept rest)) (sym e) h

pub rest_read : {V : Type 0} (f : V → FeedForm) (o : V → Option (List Op)) (k : V → List ℕ) (b : V → Bool) (r : Result V FeedFault) (form : FeedForm) (bytes : List ℕ) (before : Option (List Op)) → IsBegun bytes before
    → IfOk r (λ v. GivesRest form bytes before (f v) (o v) (k v) × (b v ≡ false)) → IfOk r (λ v. ReadsSo (Some form) bytes (o v) (f v) (k v) × (b v ≡ false))
rest_read f o k b (Ok v) form bytes before begun (h, e) = (rest_reads form (f v) bytes (k v) before (o v) begun h, e)
rest_read f o k b (Err fault) form bytes before begun h = tt

-- nothing was kept before
pub all_read : {V : Type 0} (f : V → FeedForm) (o : V → Option (List Op)) (k : V → List ℕ) (b : V → Bool) (r : Result V FeedFault) (form : FeedForm) (kept piece : List ℕ) (before : Option (List Op)) → kept ≡ [] → IsBegun (kept ++ piece) before
    → IfOk r (λ v. GivesRest form piece before (f v) (o v) (k v) × (b v ≡ false)) → IfOk r (λ v. ReadsSo (Some form) (kept ++ piece) (o v) (f v) (kept_after (b v) kept (k v)))
all_read f o k b (Ok v) form kept piece before none begun (h, e) =
    in_place (b v) (Some form) (kept ++ piece) kept (k v) (o v) (f v) e
    (rest_reads form (f v) (kept ++ piece) (k v) before (o v) begun (subst (λ (l : List ℕ). GivesRest form (l ++ piece) before (f v) (o v) (k v)) (sym none) h))
all_read f o k b (Err fault) form kept piece before none begun h = tt

pub all_stops : {V : Type 0} (r : Result V FeedFault) (form : FeedForm) (place : ℕ) (kept piece : List ℕ) → kept ≡ [] → IfErr r (λ fault. StopsOn form place piece fault) → IfErr r (λ fault. ShowsFirst (Some form) place (kept ++ piece) fault)
all_stops (Ok v) form place kept piece none h = tt
all_stops (Err fault) form place kept piece none h = subst (λ (l : List ℕ). ShowsFirst (Some form) place (l ++ piece) fault) (sym none) (goes_astray form place piece fault h.0 h.1)

-- an item was made whole
pub then_read : {V : Type 0} (f : V → FeedForm) (o : V → Option (List Op)) (k : V → List ℕ) (b : V → Bool) (r : Result V FeedFault) (form : FeedForm) (kept bytes middle : List ℕ) (before between : Option (List Op)) → IsBegun bytes before → GivesItem form bytes before between middle
    → IfOk r (λ v. GivesRest form middle between (f v) (o v) (k v) × (b v ≡ false)) → IfOk r (λ v. ReadsSo (Some form) bytes (o v) (f v) (kept_after (b v) kept (k v)))
then_read f o k b (Ok v) form kept bytes middle before between begun g (h, e) =
    in_place (b v) (Some form) bytes kept (k v) (o v) (f v) e
    (rest_reads form (f v) bytes (k v) before (o v) begun (record { same = h.same; items = both_given form bytes middle (k v) before between (o v) (one_given form bytes middle before between g) h.items; unended = h.unended }))
then_read f o k b (Err fault) form kept bytes middle before between begun g h = tt

pub stops_on : {V : Type 0} (r : Result V FeedFault) (form : FeedForm) (place : ℕ) (bytes : List ℕ) → IfErr r (λ fault. StopsOn form place bytes fault) → IfErr r (λ fault. ShowsFirst (Some form) place bytes fault)
stops_on (Ok v) form place bytes h = tt
stops_on (Err fault) form place bytes h = goes_astray form place bytes fault h.0 h.1

pub then_stops : {V : Type 0} (r : Result V FeedFault) (form : FeedForm) (place there : ℕ) (bytes middle : List ℕ) (before between : Option (List Op)) → there ≡ place + (length bytes - length middle) → GivesItem form bytes before between middle → IfErr r (λ fault. StopsOn form there middle fault)
    → IfErr r (λ fault. ShowsFirst (Some form) place bytes fault)
then_stops (Ok v) form place there bytes middle before between e g h = tt
then_stops (Err fault) form place there bytes middle before between e g h =
    goes_astray form place bytes fault (goes_then form place bytes middle before between fault (one_given form bytes middle before between g) (subst (λ (n : ℕ). GoesWrong form n middle fault) e h.0)) h.1

-- ---- the magic is made whole

-- as many bytes of the piece as fit are all, or fill the room
pub fits : (kept end beyond whole piece : List ℕ) (size : ℕ) → size ≡ min (length piece) (342 - length kept) → length end ≡ size → piece ≡ end ++ beyond → whole ≡ kept ++ end → length kept < 342 → (length beyond ≡ 0) ⊎ (342 ≤ length whole)
fits kept end beyond whole piece size m e p w room =
    let lens : length whole ≡ length kept + length end = ap (λ (l : List ℕ). length l) w ∙ length-append kept end in
    let parts : length piece ≡ length end + length beyond = ap (λ (l : List ℕ). length l) p ∙ length-append end beyond in
    elim (cases_lt (342 - length kept) (length piece)) [
      | inl lt ↦ inr (omega (arith, lens, parts, m, e, room, lt))
      | inr le ↦ inl (omega (arith, lens, parts, m, e, room, le))
    ]

-- ---- what was read shows no fault

-- where items stand, and at most a part of one after them, nothing is wrong that more bytes do not mend
never_astray : (form : FeedForm) (place : ℕ) (prefix kept bytes : List ℕ) (items : List Item) (fault : FeedFault) → Spells form prefix items → IsUnended form kept → bytes ≡ prefix ++ kept → GoesWrong form place bytes fault → fault.why ≢ why.Cut → ⊥
never_astray form place prefix kept bytes items fault f (inl none) e g whole =
    let all : prefix ≡ g.prefix ++ g.rest = sym (append-nil prefix) ∙ ap (λ (l : List ℕ). prefix ++ l) (sym none) ∙ sym e ∙ g.split in
    never_spelled form prefix g.prefix g.rest items g.before fault.why f g.spells all g.wrong
never_astray form place prefix kept bytes items fault f (inr cut) e g whole =
    whole (sym (wrong_at_once form prefix kept g.prefix g.rest items g.before why.Cut fault.why f g.spells (sym e ∙ g.split) cut g.wrong).1)

pub shows_none : (before : Option FeedForm) (place : ℕ) (bytes : List ℕ) (ops : List Op) (form : FeedForm) (kept : List ℕ) (fault : FeedFault) → Reads before bytes ops form kept → ShowsFirst before place bytes fault → ⊥
shows_none None place bytes ops form kept fault h (inl m) = m.wrong.none form (h.prefix ++ kept) h.split
shows_none None place bytes ops form kept fault h (inr g) =
    let same = one_form form g.form (h.prefix ++ kept) g.body (sym h.split ∙ g.split) in
    never_astray g.form (place + length (magic_of g.form)) h.prefix kept g.body h.items fault (subst (λ (f : FeedForm). Spells f h.prefix h.items) same.0 h.spells) (subst (λ (f : FeedForm). IsUnended f kept) same.0 h.unended) (sym same.1) g.wrong g.whole
shows_none (Some read) place bytes ops form kept fault h (inl m) = let never = m.prefix in absurd cc
shows_none (Some read) place bytes ops form kept fault h (inr g) =
    let same : form ≡ g.form = sym h.agrees ∙ g.agrees in
    never_astray g.form (place + 0) h.prefix kept g.body h.items fault (subst (λ (f : FeedForm). Spells f h.prefix h.items) same h.spells) (subst (λ (f : FeedForm). IsUnended f kept) same h.unended) (sym g.split ∙ h.split) g.wrong g.whole

-- the reader, keeping these bytes
abbrev pub with_kept : Reader → List ℕ → Reader
with_kept r kept = record { form = r.form; taken = r.taken; kept = kept; failed = r.failed }

pub lacks_memory : (r : Reader) (kept piece : List ℕ) (ops : Option (List Op)) (form : FeedForm) (after : List ℕ) → r.failed ≡ false → kept ≡ r.kept → ops ≡ None → ReadsSo r.form (r.kept ++ piece) ops form after → LacksMemory r piece (with_kept r kept)
lacks_memory r kept piece ops form after answers same none h =
    let read : ReadsSo r.form (r.kept ++ piece) None form after = subst (λ (o : Option (List Op)). ReadsSo r.form (r.kept ++ piece) o form after) none h in
    record {
      answers = answers;
      same = ap (with_kept r) same;
      long = read.0;
      none = λ fault. shows_none r.form (place_of r) (r.kept ++ piece) read.1.0 form after fault read.1.1;
    }
