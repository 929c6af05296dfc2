-- As what a piece settles.
use Rattle.std.proofs.Common.{◌≡◌, ◌∙◌, Bool, true, false, not, ◌&&◌, List, [], ◌∷◌, map, refl, sym, ap, subst, inl, inr}
use Rattle.std.proofs.lemmas.Bool.{true≢false}
use Rattle.desk_ops.specs.declared.op.Symbol.{Symbol}
use Rattle.desk_ops.proofs.Stamps.{by_cases}
use Rattle.desk_ops.proofs.Symbols.{symbol_itself, symbol_same}
use Rattle.feed_readings.specs.declared.reading.Reading.{Reading}
use Rattle.feed_readings.specs.declared.reading.Shown.{Shown}
use Rattle.feed_readings.specs.Pieces.{is_open, part, reads_same, same_symbol, settles}
use Rattle.feed_readings.specs.Laws.{IsSettled, SettleAs}

abbrev pub symbols : List Shown → List Symbol
symbols list = map (λ (element : Shown). element.symbol) list

both_true : (a b : Bool) → (a && b) ≡ true → (a ≡ true) × (b ≡ true)
both_true true b e = (refl, e)
both_true false b e = absurd (true≢false (sym e))

pub reads_true : (xs ys : List Shown) → reads_same xs ys ≡ true → symbols xs ≡ symbols ys
reads_true [] [] e = refl
reads_true [] (y ∷ ys) e = absurd (true≢false (sym e))
reads_true (x ∷ xs) [] e = absurd (true≢false (sym e))
reads_true (x ∷ xs) (y ∷ ys) e =
    let h = both_true (same_symbol x.symbol y.symbol) (reads_same xs ys) e in
    let first : x.symbol ≡ y.symbol = symbol_same x.symbol y.symbol h.0 in
    let rest : symbols xs ≡ symbols ys = reads_true xs ys h.1 in
    cc

pub reads_from : (xs ys : List Shown) → symbols xs ≡ symbols ys → reads_same xs ys ≡ true
reads_from [] [] e = refl
reads_from [] (y ∷ ys) e = cc
reads_from (x ∷ xs) [] e = cc
reads_from (x ∷ xs) (y ∷ ys) e =
    let first : x.symbol ≡ y.symbol = cc in
    let rest : symbols xs ≡ symbols ys = cc in
    let same : same_symbol x.symbol y.symbol ≡ true = subst (λ (s : Symbol). same_symbol x.symbol s ≡ true) first (symbol_itself x.symbol) in
    ap (λ (b : Bool). b && reads_same xs ys) same ∙ reads_from xs ys rest

no : (xs ys : List Shown) → reads_same xs ys ≡ false → symbols xs ≡ symbols ys → ⊥
no xs ys e same = true≢false (sym (reads_from xs ys same) ∙ e)

module _ (o a b m : List Shown) where
  pub settles_true : settles o a b m ≡ true → SettleAs (symbols o) (symbols a) (symbols b) (symbols m)
  settles_true e =
      by_cases (reads_same a b)
      (λ same. inl (reads_true a b same, sym (reads_true a m (rw same at e))))
      (λ apart. by_cases (reads_same o a)
      (λ was. inr (inl (reads_true o a was, sym (reads_true b m (rw (apart, was) at e)))))
      (λ changed. by_cases (reads_same o b)
      (λ were. inr (inr (reads_true o b were, sym (reads_true a m (rw (apart, changed, were) at e)))))
      (λ never. absurd (true≢false (sym (rw (apart, changed, never) at e))))))

  pub settles_from : SettleAs (symbols o) (symbols a) (symbols b) (symbols m) → settles o a b m ≡ true
  settles_from s =
      by_cases (reads_same a b)
      (λ same. rw same (reads_from a m (alike (reads_true a b same) s)))
      (λ apart. by_cases (reads_same o a)
      (λ was. rw (apart, was) (reads_from b m (of_other (no a b apart) (reads_true o a was) s)))
      (λ changed. by_cases (reads_same o b)
      (λ were. rw (apart, changed, were) (reads_from a m (of_one (no a b apart) (no o a changed) s)))
      (λ never. absurd (nothing (no a b apart) (no o a changed) (no o b never) s))))
    where
      alike : symbols a ≡ symbols b → SettleAs (symbols o) (symbols a) (symbols b) (symbols m) → symbols a ≡ symbols m
      alike e (inl h) = sym h.1
      alike e (inr (inl h)) = e ∙ sym h.1
      alike e (inr (inr h)) = sym h.1

      of_other : (symbols a ≡ symbols b → ⊥) → symbols o ≡ symbols a → SettleAs (symbols o) (symbols a) (symbols b) (symbols m) → symbols b ≡ symbols m
      of_other apart was (inl h) = absurd (apart h.0)
      of_other apart was (inr (inl h)) = sym h.1
      of_other apart was (inr (inr h)) = absurd (apart (sym was ∙ h.0))

      of_one : (symbols a ≡ symbols b → ⊥) → (symbols o ≡ symbols a → ⊥) → SettleAs (symbols o) (symbols a) (symbols b) (symbols m) → symbols a ≡ symbols m
      of_one apart changed (inl h) = absurd (apart h.0)
      of_one apart changed (inr (inl h)) = absurd (changed h.0)
      of_one apart changed (inr (inr h)) = sym h.1

      nothing : (symbols a ≡ symbols b → ⊥) → (symbols o ≡ symbols a → ⊥) → (symbols o ≡ symbols b → ⊥) → SettleAs (symbols o) (symbols a) (symbols b) (symbols m) → ⊥
      nothing apart changed never (inl h) = apart h.0
      nothing apart changed never (inr (inl h)) = changed h.0
      nothing apart changed never (inr (inr h)) = never h.0

not_false : (b : Bool) → not b ≡ false → b ≡ true
not_false true e = refl
not_false false e = absurd (true≢false e)

pub closed_settled : (base one other both : List Shown) (piece : Reading) → is_open base one other both piece ≡ false → IsSettled base one other both piece
closed_settled base one other both piece e =
    settles_true (part base piece.from.base piece.to.base) (part one piece.from.one piece.to.one) (part other piece.from.other piece.to.other) (part both piece.from.both piece.to.both) (not_false _ e)

-- what exchanged copies settle as is the same
exchanged : (o a b m : List Symbol) → SettleAs o a b m → SettleAs o b a m
exchanged o a b m (inl h) = inl (sym h.0, h.1 ∙ h.0)
exchanged o a b m (inr (inl h)) = inr (inr h)
exchanged o a b m (inr (inr h)) = inr (inl h)

one_truth : (a b : Bool) → (a ≡ true → b ≡ true) → (b ≡ true → a ≡ true) → a ≡ b
one_truth true b f g = sym (f refl)
one_truth false true f g = g refl
one_truth false false f g = refl

pub settles_alike : (o a b m : List Shown) → settles o b a m ≡ settles o a b m
settles_alike o a b m =
    one_truth (settles o b a m) (settles o a b m)
    (λ e. settles_from o a b m (exchanged (symbols o) (symbols b) (symbols a) (symbols m) (settles_true o b a m e)))
    (λ e. settles_from o b a m (exchanged (symbols o) (symbols a) (symbols b) (symbols m) (settles_true o a b m e)))
