-- Pieces are the feed: what one piece gives after another is what the two give at once.
use Rattle.std.proofs.Common.{◌≡◌, ◌≢◌, ℕ, ◌+◌, ◌<◌, ◌≤◌, false, List, [], ◌∷◌, ◌++◌, length, Option, Some, None, refl, sym, ap, subst, ◌∙◌, ◌⊎◌, inl, inr, append_assoc, length-append, arith}
use Rattle.std.proofs.lemmas.List.{append-nil}
use Rattle.std.proofs.lemmas.Grind.{flat_map-append}
use Rattle.desk_ops.specs.declared.op.Op.{Op}
use Rattle.desk_codec.specs.declared.form.FeedForm.{FeedForm}
use Rattle.desk_codec.specs.declared.form.FeedForm.TheVariants.{Singles, Runs}
use Rattle.desk_codec.specs.declared.fault.FeedWhy.{FeedWhy}
use Rattle.desk_codec.specs.declared.fault.FeedWhy.TheVariants as why
use Rattle.desk_codec.specs.declared.fault.FeedFault.{FeedFault}
use Rattle.desk_codec.specs.Items.{Item, item_ops}
use Rattle.desk_codec.specs.Feed.{magic_of, Spells, ops_in, IsFeed}
use Rattle.desk_codec.specs.Fault.{item_bytes, BeginsRun, IsCut, IsWrong, GoesWrong, HasNoMagic, IsFirstFault}
use Rattle.desk_codec.specs.Pieces.{Reader, fresh, place_of, due, IsUnended, AwaitsMagic, Reads, IsRead, GoesAstray, ShowsFirst, Takes, Shows, IsWhole, EndsInMagic, EndsInItem, EndsWrong}
use Rattle.desk_codec.specs.PieceReading.{Resumes}
use Rattle.desk_codec.proofs.Grammar.{spells_append, one_form, one_list}
use Rattle.desk_codec.proofs.FaultLaws.{never_spelled}

-- ---- what holds of a reader between two pieces

pub record IsSound (r : Reader) : Type 0 where
  pub within : length r.kept ≤ r.taken
  pub resumes : Resumes r.form (place_of r) r.kept

pub fresh_sound : IsSound fresh
fresh_sound = record { within = omega arith; resumes = (refl, omega arith) }

pub magic_length : (form : FeedForm) → length (magic_of form) ≡ 4
magic_length Singles = refl
magic_length Runs = refl

-- where a reader stands after a piece with items or none
pub place_after : (r s : Reader) (piece : List ℕ) (form : FeedForm) (prefix : List ℕ) → length r.kept ≤ r.taken → s.taken ≡ r.taken + length piece → r.kept ++ piece ≡ due r.form form ++ (prefix ++ s.kept)
    → (length s.kept ≤ s.taken) × (place_of s ≡ place_of r + (length (due r.form form) + length prefix))
place_after r s piece form prefix w t e =
    let whole : length r.kept + length piece ≡ length (due r.form form) + (length prefix + length s.kept) =
    sym (length-append r.kept piece) ∙ ap (λ (l : List ℕ). length l) e ∙ length-append (due r.form form) (prefix ++ s.kept) ∙ ap (λ (n : ℕ). length (due r.form form) + n) (length-append prefix s.kept)
    in
    (omega arith, omega arith)

-- after a piece that was read, the magic stands before the reader
far_after : (before : Option FeedForm) (form : FeedForm) (place after n : ℕ) (kept : List ℕ) → Resumes before place kept → after ≡ place + (length (due before form) + n) → 4 ≤ after
far_after None form place after n kept h e = let four = magic_length form in omega (arith, four, e)
far_after (Some read) form place after n kept h e = let far = h.0 in omega (arith, far, e)

pub awaits_after : (r s : Reader) (piece : List ℕ) (ops : List Op) → IsSound r → s.taken ≡ r.taken + length piece → AwaitsMagic r.form (r.kept ++ piece) ops s.form s.kept → IsSound s × (place_of s ≡ 0) × (place_of r ≡ 0)
awaits_after r s piece ops h t a =
    let here : Resumes None (place_of r) r.kept = subst (λ (o : Option FeedForm). Resumes o (place_of r) r.kept) a.prefix h.resumes in
    let len : length s.kept ≡ length r.kept + length piece = ap (λ (l : List ℕ). length l) a.all ∙ length-append r.kept piece in
    let w = h.within in
    let zero = here.0 in
    let all : length s.kept ≡ length (r.kept ++ piece) = ap (λ (l : List ℕ). length l) a.all in
    let short = a.short in
    let place : place_of s ≡ 0 = omega (arith, len, w, zero, t) in
    let few : length s.kept < 4 = omega (arith, all, short) in
    (record { within = omega (arith, len, w, t); resumes = subst (λ (o : Option FeedForm). Resumes o (place_of s) s.kept) (sym a.still) (place, few) }, place, zero)

pub reads_after : (r s : Reader) (piece : List ℕ) (ops : List Op) (form : FeedForm) → IsSound r → s.taken ≡ r.taken + length piece → s.form ≡ Some form → (d : Reads r.form (r.kept ++ piece) ops form s.kept)
    → IsSound s × (4 ≤ place_of s) × (place_of s ≡ place_of r + (length (due r.form form) + length d.prefix))
reads_after r s piece ops form h t f d =
    let p = place_after r s piece form d.prefix h.within t d.split in
    let four : 4 ≤ place_of s = far_after r.form form (place_of r) (place_of s) (length d.prefix) r.kept h.resumes p.1 in
    (record { within = p.0; resumes = subst (λ (o : Option FeedForm). Resumes o (place_of s) s.kept) (sym f) (four, d.unended) }, four, p.1)

-- ---- more bytes

pub begins_on : (bytes more : List ℕ) (count : ℕ) (rest : List ℕ) → BeginsRun bytes count rest → BeginsRun (bytes ++ more) count (rest ++ more)
begins_on bytes more count rest h =
    record { stamps = h.stamps; twenty = h.twenty; prefix = ap (λ (l : List ℕ). l ++ more) h.prefix ∙ ap (λ (l : List ℕ). 4 ∷ l) (append_assoc h.stamps (count ∷ rest) more) }

-- more bytes do not mend what is wrong, unless the bytes end inside an item
pub wrong_on : (form : FeedForm) (bytes more : List ℕ) (w : FeedWhy) → w ≢ why.Cut → IsWrong form bytes w → IsWrong form (bytes ++ more) w
wrong_on form bytes more why.Magic n h = h
wrong_on form bytes more why.Kind n h = record { kind = h.kind; rest = h.rest ++ more; prefix = ap (λ (l : List ℕ). l ++ more) h.prefix; none = h.none; no_run = h.no_run }
wrong_on form bytes more (why.Unlawful u) n h =
    record { fields = h.fields; values = h.values; stands = h.stands; rest = h.rest ++ more; prefix = ap (λ (l : List ℕ). l ++ more) h.prefix ∙ append_assoc (item_bytes h.fields) h.rest more; is = h.is }
wrong_on form bytes more why.Cut n h = absurd (n refl)
wrong_on form bytes more why.Run n h = record { runs = h.runs; count = h.count; rest = h.rest ++ more; prefix = begins_on bytes more h.count h.rest h.prefix; out = h.out }

pub goes_on : (form : FeedForm) (place : ℕ) (bytes more : List ℕ) (fault : FeedFault) → fault.why ≢ why.Cut → GoesWrong form place bytes fault → GoesWrong form place (bytes ++ more) fault
goes_on form place bytes more fault n h =
    record {
      before = h.before;
      prefix = h.prefix;
      spells = h.spells;
      rest = h.rest ++ more;
      split = ap (λ (l : List ℕ). l ++ more) h.split ∙ append_assoc h.prefix h.rest more;
      there = h.there;
      wrong = wrong_on form h.rest more fault.why n h.wrong;
    }

-- items before the place where bytes go wrong
pub goes_after : (form : FeedForm) (place : ℕ) (prefix bytes : List ℕ) (items : List Item) (fault : FeedFault) → Spells form prefix items → GoesWrong form (place + length prefix) bytes fault → GoesWrong form place (prefix ++ bytes) fault
goes_after form place prefix bytes items fault f h =
    let len : length (prefix ++ h.prefix) ≡ length prefix + length h.prefix = length-append prefix h.prefix in
    let there = h.there in
    record {
      before = items ++ h.before;
      prefix = prefix ++ h.prefix;
      spells = spells_append form prefix h.prefix items h.before f h.spells;
      rest = h.rest;
      split = ap (λ (l : List ℕ). prefix ++ l) h.split ∙ sym (append_assoc prefix h.prefix h.rest);
      there = omega (arith, len, there);
      wrong = h.wrong;
    }

-- four bytes that are no magic are none with more after them
no_magic_on : (form : FeedForm) (bytes more : List ℕ) → 4 ≤ length bytes → ((rest : List ℕ) → bytes ≡ magic_of form ++ rest → ⊥) → (rest : List ℕ) → bytes ++ more ≡ magic_of form ++ rest → ⊥
no_magic_on form [] more long none rest e = omega arith
no_magic_on form (a ∷ []) more long none rest e = omega arith
no_magic_on form (a ∷ b ∷ []) more long none rest e = omega arith
no_magic_on form (a ∷ b ∷ c ∷ []) more long none rest e = omega arith
no_magic_on Singles (a ∷ b ∷ c ∷ d ∷ bytes) more long none rest e = none bytes (cc)
no_magic_on Runs (a ∷ b ∷ c ∷ d ∷ bytes) more long none rest e = none bytes (cc)

pub not_magic_on : (bytes more : List ℕ) (fault : FeedFault) → 4 ≤ length bytes → HasNoMagic bytes fault → HasNoMagic (bytes ++ more) fault
not_magic_on bytes more fault long h = record { none = λ form rest e. no_magic_on form bytes more long (h.none form) rest e; is = h.is }

-- ---- pieces one after the other

regroup : (r s : Reader) (p q : List ℕ) → s.kept ≡ r.kept ++ p → s.kept ++ q ≡ r.kept ++ (p ++ q)
regroup r s p q e = ap (λ (l : List ℕ). l ++ q) e ∙ append_assoc r.kept p q

never_none : (form : FeedForm) (o : Option FeedForm) → o ≡ Some form → o ≡ None → ⊥
never_none form o f g = cc

pub joined_ops : (xs ys : List Op) (a b : List Item) → xs ≡ ops_in a → ys ≡ ops_in b → xs ++ ys ≡ ops_in (a ++ b)
joined_ops xs ys a b f g = ap (λ (l : List Op). l ++ ys) f ∙ ap (λ (l : List Op). ops_in a ++ l) g ∙ sym (flat_map-append item_ops a b)

both_read : (r s t : Reader) (p q : List ℕ) (xs ys : List Op) (form next : FeedForm) → Reads r.form (r.kept ++ p) xs form s.kept → Reads (Some form) (s.kept ++ q) ys next t.kept → Reads r.form (r.kept ++ (p ++ q)) (xs ++ ys) next t.kept
both_read r s t p q xs ys form next c b =
    let a : Reads r.form (r.kept ++ p) xs next s.kept = subst (λ (f : FeedForm). Reads r.form (r.kept ++ p) xs f s.kept) b.agrees c in
    record {
      agrees = a.agrees;
      items = a.items ++ b.items;
      prefix = a.prefix ++ b.prefix;
      spells = spells_append next a.prefix b.prefix a.items b.items a.spells b.spells;
      joined = joined_ops xs ys a.items b.items a.joined b.joined;
      split = sym (append_assoc r.kept p q)
          ∙ ap (λ (l : List ℕ). l ++ q) a.split
          ∙ append_assoc (due r.form next) (a.prefix ++ s.kept) q
          ∙ ap (λ (l : List ℕ). due r.form next ++ l) (append_assoc a.prefix s.kept q ∙ ap (λ (l : List ℕ). a.prefix ++ l) b.split ∙ sym (append_assoc a.prefix b.prefix t.kept));
      unended = b.unended;
    }

then_read : (r s t : Reader) (p q : List ℕ) (ys : List Op) → s.form ≡ r.form → s.kept ≡ r.kept ++ p → IsRead s.form (s.kept ++ q) ys t.form t.kept → IsRead r.form (r.kept ++ (p ++ q)) ys t.form t.kept
then_read r s t p q ys form all b =
    subst (λ (o : Option FeedForm). IsRead o (r.kept ++ (p ++ q)) ys t.form t.kept) form (subst (λ (l : List ℕ). IsRead s.form l ys t.form t.kept) (regroup r s p q all) b)

joined_read : (r s t : Reader) (p q : List ℕ) (xs ys : List Op) → IsRead r.form (r.kept ++ p) xs s.form s.kept → IsRead s.form (s.kept ++ q) ys t.form t.kept → IsRead r.form (r.kept ++ (p ++ q)) (xs ++ ys) t.form t.kept
joined_read r s t p q xs ys (inl a) second =
    subst (λ (l : List Op). IsRead r.form (r.kept ++ (p ++ q)) (l ++ ys) t.form t.kept) (sym a.none) (then_read r s t p q ys (a.still ∙ sym a.prefix) a.all second)
joined_read r s t p q xs ys (inr a) (inl b) = absurd (never_none a.0 s.form a.1 b.prefix)
joined_read r s t p q xs ys (inr a) (inr b) =
    inr (b.0, b.1, both_read r s t p q xs ys a.0 b.0 a.2 (subst (λ (o : Option FeedForm). Reads o (s.kept ++ q) ys b.0 t.kept) a.1 b.2))

-- a piece taken after a piece is both taken at once
pub joined : (r s t : Reader) (p q : List ℕ) (xs ys : List Op) → Takes r p xs s → Takes s q ys t → Takes r (p ++ q) (xs ++ ys) t
joined r s t p q xs ys a b =
    let len : length (p ++ q) ≡ length p + length q = length-append p q in
    let one = a.taken in
    let two = b.taken in
    record { answers = a.answers; answers_on = b.answers_on; taken = omega (arith, len, one, two); read = joined_read r s t p q xs ys a.read b.read }

both_astray : (r s : Reader) (p q : List ℕ) (xs : List Op) (fault : FeedFault) (form : FeedForm) → IsSound r → s.taken ≡ r.taken + length p → s.form ≡ Some form → Reads r.form (r.kept ++ p) xs form s.kept → GoesAstray (Some form) (place_of s) (s.kept ++ q) fault
    → GoesAstray r.form (place_of r) (r.kept ++ (p ++ q)) fault
both_astray r s p q xs fault form h t f c b =
    let a : Reads r.form (r.kept ++ p) xs b.form s.kept = subst (λ (f : FeedForm). Reads r.form (r.kept ++ p) xs f s.kept) b.agrees c in
    let there = (reads_after r s p xs b.form h t (f ∙ ap (λ (g : FeedForm). Some g) b.agrees) a).2 in
    let place : place_of s + 0 ≡ (place_of r + length (due r.form b.form)) + length a.prefix = omega (arith, there) in
    record {
      form = b.form;
      agrees = a.agrees;
      body = a.prefix ++ b.body;
      split = sym (append_assoc r.kept p q)
          ∙ ap (λ (l : List ℕ). l ++ q) a.split
          ∙ append_assoc (due r.form b.form) (a.prefix ++ s.kept) q
          ∙ ap (λ (l : List ℕ). due r.form b.form ++ l) (append_assoc a.prefix s.kept q ∙ ap (λ (l : List ℕ). a.prefix ++ l) b.split);
      wrong = goes_after b.form (place_of r + length (due r.form b.form)) a.prefix b.body a.items fault a.spells (subst (λ (n : ℕ). GoesWrong b.form n b.body fault) place b.wrong);
      whole = b.whole;
    }

astray_after : (r s : Reader) (p q : List ℕ) (xs : List Op) (fault : FeedFault) (form : FeedForm) → IsSound r → s.taken ≡ r.taken + length p → s.form ≡ Some form → Reads r.form (r.kept ++ p) xs form s.kept → ShowsFirst (Some form) (place_of s) (s.kept ++ q) fault
    → ShowsFirst r.form (place_of r) (r.kept ++ (p ++ q)) fault
astray_after r s p q xs fault form h t f a (inl b) = let none = b.prefix in absurd cc
astray_after r s p q xs fault form h t f a (inr b) = inr (both_astray r s p q xs fault form h t f a b)

joined_shows : (r s : Reader) (p q : List ℕ) (xs : List Op) (fault : FeedFault) → IsSound r → s.taken ≡ r.taken + length p → IsRead r.form (r.kept ++ p) xs s.form s.kept → ShowsFirst s.form (place_of s) (s.kept ++ q) fault → ShowsFirst r.form (place_of r) (r.kept ++ (p ++ q)) fault
joined_shows r s p q xs fault h t (inl a) b =
    let after = awaits_after r s p xs h t a in
    let place : place_of s ≡ place_of r = after.1 ∙ sym after.2 in
    let form : s.form ≡ r.form = a.still ∙ sym a.prefix in
    subst (λ (n : ℕ). ShowsFirst r.form n (r.kept ++ (p ++ q)) fault) place
    (subst (λ (o : Option FeedForm). ShowsFirst o (place_of s) (r.kept ++ (p ++ q)) fault) form (subst (λ (l : List ℕ). ShowsFirst s.form (place_of s) l fault) (regroup r s p q a.all) b))
joined_shows r s p q xs fault h t (inr a) b = astray_after r s p q xs fault a.0 h t a.1 a.2 (subst (λ (o : Option FeedForm). ShowsFirst o (place_of s) (s.kept ++ q) fault) a.1 b)

-- a fault shown after a piece is shown by both at once
pub joined_shown : (r s : Reader) (p q : List ℕ) (xs : List Op) (fault : FeedFault) → IsSound r → Takes r p xs s → Shows s q fault → Shows r (p ++ q) fault
joined_shown r s p q xs fault h a b = record { answers = a.answers; first = joined_shows r s p q xs fault h a.taken a.read b.first }

-- ---- a reader that began with nothing

first_read : (bytes : List ℕ) (ops : List Op) (s : Reader) → IsRead None bytes ops s.form s.kept → s.form ≢ None → s.kept ≡ [] → IsFeed bytes ops
first_read bytes ops s (inl a) begun none = absurd (begun a.still)
first_read bytes ops s (inr d) begun none =
    record {
      form = d.0;
      items = d.2.items;
      rest = d.2.prefix;
      prefix = d.2.split ∙ ap (λ (l : List ℕ). magic_of d.0 ++ (d.2.prefix ++ l)) none ∙ ap (λ (l : List ℕ). magic_of d.0 ++ l) (append-nil d.2.prefix);
      spells = d.2.spells;
      joined = d.2.joined;
    }

-- what was read, and is whole at its end, is a feed
pub whole_feed : (bytes : List ℕ) (ops : List Op) (s : Reader) → Takes fresh bytes ops s → IsWhole s → IsFeed bytes ops
whole_feed bytes ops s t w = first_read bytes ops s t.read w.begun w.none

pub short_magic : (form : FeedForm) (bytes rest : List ℕ) → length bytes < 4 → bytes ≡ magic_of form ++ rest → ⊥
short_magic form bytes rest short e =
    let len : length bytes ≡ length (magic_of form) + length rest = ap (λ (l : List ℕ). length l) e ∙ length-append (magic_of form) rest in
    let four = magic_length form in
    omega (arith, short, len, four)

-- what is kept of a feed is nothing, since a cut item is no item
feed_ends : (form : FeedForm) (bytes prefix kept : List ℕ) (items before : List Item) → Spells form bytes items → Spells form prefix before → bytes ≡ prefix ++ kept → IsUnended form kept → kept ≡ []
feed_ends form bytes prefix kept items before f g e (inl none) = none
feed_ends form bytes prefix kept items before f g e (inr cut) = absurd (never_spelled form bytes prefix kept items before why.Cut f g e cut)

kept_of_feed : (bytes : List ℕ) (ops read : List Op) (form : FeedForm) (kept : List ℕ) → IsFeed bytes ops → Reads None bytes read form kept → kept ≡ []
kept_of_feed bytes ops read form kept f d =
    let same = one_form f.form form f.rest (d.prefix ++ kept) (sym f.prefix ∙ d.split) in
    let there : Spells form f.rest f.items = subst (λ (g : FeedForm). Spells g f.rest f.items) same.0 f.spells in
    feed_ends form f.rest d.prefix kept f.items d.items there d.spells same.1 d.unended

exact_read : (bytes : List ℕ) (read ops : List Op) (s : Reader) → s.failed ≡ false → IsRead None bytes read s.form s.kept → IsFeed bytes ops → IsWhole s × (read ≡ ops)
exact_read bytes read ops s on (inl a) f = absurd (short_magic f.form bytes f.rest a.short f.prefix)
exact_read bytes read ops s on (inr d) f =
    let whole : IsWhole s = record { answers = on; begun = never_none d.0 s.form d.1; none = kept_of_feed bytes ops read d.0 s.kept f d.2 } in
    (whole, one_list bytes read ops (first_read bytes read s (inr d) whole.begun whole.none) f)

-- a feed that was read is whole at its end, and what was read is its list
pub feed_whole : (bytes : List ℕ) (read ops : List Op) (s : Reader) → Takes fresh bytes read s → IsFeed bytes ops → IsWhole s × (read ≡ ops)
feed_whole bytes read ops s t f = exact_read bytes read ops s t.answers_on t.read f

one_some : (f g : FeedForm) (o : Option FeedForm) → o ≡ Some f → o ≡ Some g → f ≡ g
one_some f g o a b = cc

first_end : (bytes : List ℕ) (ops : List Op) (s : Reader) (fault : FeedFault) → s.taken ≡ 0 + length bytes → IsRead None bytes ops s.form s.kept → EndsInMagic s fault ⊎ EndsInItem s fault → IsFirstFault bytes fault
first_end bytes ops s fault t (inl a) (inl m) = inl (record { none = λ form rest e. short_magic form bytes rest a.short e; is = m.is })
first_end bytes ops s fault t (inl a) (inr m) = absurd (never_none m.form s.form m.begun a.still)
first_end bytes ops s fault t (inr d) (inl m) = absurd (never_none d.0 s.form d.1 m.prefix)
first_end bytes ops s fault t (inr d) (inr m) =
    let after = place_after fresh s bytes d.0 d.2.prefix (omega arith) t d.2.split in
    let place = after.1 in
    let four = magic_length d.0 in
    let reported : fault.at ≡ place_of s = ap (λ (f : FeedFault). f.at) m.is in
    let there : fault.at ≡ 4 + length d.2.prefix = omega (arith, reported, place, four) in
    let same : m.form ≡ d.0 = one_some m.form d.0 s.form m.begun d.1 in
    let cut : IsWrong d.0 s.kept fault.why = subst (λ (f : FeedFault). IsWrong d.0 s.kept f.why) (sym m.is) (subst (λ (f : FeedForm). IsCut f s.kept) same m.cut) in
    inr (d.0, d.2.prefix ++ s.kept, d.2.split, record { before = d.2.items; prefix = d.2.prefix; spells = d.2.spells; rest = s.kept; split = refl; there = there; wrong = cut })

-- what was read, and ends wrong, has that first fault
pub end_fault : (bytes : List ℕ) (ops : List Op) (s : Reader) (fault : FeedFault) → Takes fresh bytes ops s → EndsWrong s fault → IsFirstFault bytes fault
end_fault bytes ops s fault t w = first_end bytes ops s fault t.taken t.read w.why

first_shown : (bytes more : List ℕ) (fault : FeedFault) → ShowsFirst None 0 bytes fault → IsFirstFault (bytes ++ more) fault
first_shown bytes more fault (inl m) = inl (not_magic_on bytes more fault m.long m.wrong)
first_shown bytes more fault (inr d) =
    let four : 0 + length (magic_of d.form) ≡ 4 = let four = magic_length d.form in omega (arith, four) in
    inr (
      d.form,
      d.body ++ more,
      ap (λ (l : List ℕ). l ++ more) d.split ∙ append_assoc (magic_of d.form) d.body more,
      goes_on d.form 4 d.body more fault d.whole (subst (λ (n : ℕ). GoesWrong d.form n d.body fault) four d.wrong),
    )

-- a fault that a piece shows is the first of the bytes so far, whatever follows
pub shown_fault : (bytes more : List ℕ) (fault : FeedFault) → Shows fresh bytes fault → IsFirstFault (bytes ++ more) fault
shown_fault bytes more fault s = first_shown bytes more fault s.first

-- a fresh reader takes no bytes and stays as it is
pub fresh_takes : Takes fresh [] [] fresh
fresh_takes = record { answers = refl; answers_on = refl; taken = refl; read = inl (record { prefix = refl; still = refl; short = omega arith; none = refl; all = refl }) }
