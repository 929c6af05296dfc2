-- What a call says of its Ok and of its Err, behind `map_err`.
use Rattle.std.proofs.Common.{◌≡◌, ◌∙◌, ap, subst, sym}
use Rattle.std.specs.Prelude.{IfErr, IfOk, IsErrAnd, MatchResult, Result, Ok, Err, is_ok}
use Rattle.std.proofs.lemmas.Bool.{true≢false}
use Rattle.std.proofs.lemmas.Result.{err_from_is_err_and}

pub ok_behind : {T E D : Type 0} (P : T → Type 0) (Q : E → Type 0) (r : Result T E) (s : Result T D) (x : T) → MatchResult r (λ y. s ≡ Ok y) Q → is_ok s ≡ is_ok r → s ≡ Ok x → IfOk r P → P x
ok_behind P Q (Ok y) s x same variant is h = let there : y ≡ x = cc in subst P there h
ok_behind P Q (Err e) s x other variant is h = absurd (true≢false (sym (ap is_ok is) ∙ variant))

pub err_behind : {T E D : Type 0} (P : E → Type 0) (Q : E → D → Type 0) (r : Result T E) (s : Result T D) (d : D) → MatchResult r (λ x. s ≡ Ok x) (λ e. IsErrAnd s (Q e)) → s ≡ Err d → IfErr r P → (e : E) × P e × Q e d
err_behind P Q (Ok x) s d same is h = absurd (cc)
err_behind P Q (Err e) s d other is h =
    let given = err_from_is_err_and s other in
    let there : given.0 ≡ d = let same = given.1 in cc in
    (e, h, subst (λ y. Q e y) there given.2)
