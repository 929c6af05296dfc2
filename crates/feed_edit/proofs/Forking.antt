-- The stamps that a set forks and another does not.
use Rattle.std.proofs.Common.{◌≡◌, ◌∙◌, ℕ, ◌+◌, ◌≤◌, Bool, true, false, cond, List, [], ◌∷◌, length, refl, sym, ap, subst, inl, inr, arith}
use Rattle.std.specs.Prelude.{◌≢◌, ◌==◌}
use Rattle.std.proofs.lemmas.Bool.Decides.{nat_tests}
use Rattle.std.proofs.lemmas.Bool.{true≢false}
use Rattle.std.proofs.lemmas.List.{nil_from_length}
use Rattle.desk_ops.specs.declared.fault.CopyFault.{CopyFault}
use Rattle.desk_ops.specs.declared.op.Op.{Op}
use Rattle.desk_ops.specs.Faults.{faults_of}
use Rattle.desk_ops.specs.Held.{is_forked_in}
use Rattle.desk_ops.specs.Lists.{Among}
use Rattle.desk_ops.specs.OpSet.{AllLawful, OpSet, has_op, size, with_all, with_op}
use Rattle.desk_ops.proofs.OpSets.{with_op-known}
use Rattle.desk_ops.proofs.Stamps.{by_cases}
use Rattle.desk_ops.proofs.Stuck.{fault_listed, listed_fault}
use Rattle.desk_ops.proofs.Unions.{size-with_op}
use Rattle.feed_edit.specs.declared.forks.Known.{Known}
use Rattle.feed_edit.specs.declared.stamps.SiteStamp.{SiteStamp}
use Rattle.feed_edit.specs.Forks.{AreForkedBeside, AreFound, AreFreshForks, AreNewlyForked, IsAllowed, IsKnown, fork_at}
use Rattle.feed_edit.specs.Stamps.{site_stamp_of, stamp_at}

-- a forked stamp is one that has that fault
pub beside : (known : List SiteStamp) (set : OpSet) (faults : List CopyFault) (stamps : List SiteStamp) → AllLawful set → faults ≡ faults_of set → AreFreshForks known faults stamps → AreForkedBeside known set stamps
beside known set faults stamps lawful is fresh = record {
  rise = fresh.rise;
  all = λ stamp.
      let each = fresh.all stamp in (
        λ m. let r = each.0 m in (fault_listed set lawful (fork_at stamp) (subst (λ (l : List CopyFault). Among (fork_at stamp) l) is r.0), r.1),
        λ b. each.1 (subst (λ (l : List CopyFault). Among (fork_at stamp) l) (sym is) (listed_fault set lawful (fork_at stamp) b.0), b.1),
      );
}

-- ---- a list of which nothing is new

grows : (set : OpSet) (ops : List Op) → size set ≤ size (with_all set ops)
grows set [] = omega arith
grows set (op ∷ ops) =
    let more : size (with_op set op) ≤ size (with_all (with_op set op) ops) = grows (with_op set op) ops in
    by_cases (has_op set op)
    (λ e. let same : size (with_op set op) ≡ size set = size-with_op set op ∙ ap (λ b. cond b (size set) (size set + 1)) e in omega (arith, more, same))
    (λ e. let one : size (with_op set op) ≡ size set + 1 = size-with_op set op ∙ ap (λ b. cond b (size set) (size set + 1)) e in omega (arith, more, one))

pub unchanged : (set : OpSet) (ops : List Op) → size (with_all set ops) ≡ size set → with_all set ops ≡ set
unchanged set [] e = refl
unchanged set (op ∷ ops) e =
    by_cases (has_op set op)
    (λ held.
    let same = with_op-known set op held in
    ap (λ (s : OpSet). with_all s ops) same ∙ unchanged set ops (ap (λ (s : OpSet). size (with_all s ops)) (sym same) ∙ e))
    (λ new.
    let more : size (with_op set op) ≤ size (with_all (with_op set op) ops) = grows (with_op set op) ops in
    let one : size (with_op set op) ≡ size set + 1 = size-with_op set op ∙ ap (λ b. cond b (size set) (size set + 1)) new in
    absurd (omega (arith, more, one, e)))

pub no_news : (n : ℕ) (old new : OpSet) (ops : List Op) → n ≡ 0 → n + size old ≡ size new → new ≡ with_all old ops → new ≡ old
no_news n old new ops none counted gained =
    let sizes : size new ≡ size (with_all old ops) = ap size gained in
    gained ∙ unchanged old ops (omega (arith, none, counted, sizes))

-- ---- whether anything is found

pub nothing : {A : Type 0} (len : ℕ) (xs : List A) (b : Bool) → len ≡ length xs → b ≡ (len == 0) → b ≡ true → xs ≡ []
nothing len xs b is e empty =
    let none : len ≡ 0 = grind (arith, nat_tests) in
    nil_from_length xs (sym is ∙ none)

-- ---- what is found, by what is known

module _ {A : Type 0} (known : Known A) (old set new : OpSet) (stamps : List SiteStamp) (is : IsKnown old known) where
  -- where nothing is found nothing new is forked
  pub allowed_more : IsAllowed known.forks old set → AreFound known set new stamps → stamps ≡ [] → IsAllowed known.forks old new
  allowed_more allowed (inl (none, inl asked)) empty unasked adds = true≢false (sym asked ∙ unasked)
  allowed_more allowed (inl (none, inr same)) empty unasked adds = allowed unasked (adds.0, (adds.1.0, subst (λ (s : OpSet). is_forked_in s adds.0 ≡ true) same adds.1.1))
  allowed_more allowed (inr (looked, found)) empty unasked adds =
      let at = site_stamp_of adds.0 in
      let out : Among at known.stamps.items → ⊥ = λ m. true≢false (sym (((is.forked unasked).all at).0 m).0 ∙ adds.1.0) in
      subst (λ (l : List SiteStamp). Among at l) empty ((found.all at).1 (adds.1.1, out))

  -- and what is found is newly forked
  pub newly_forked : AreFound known set new stamps → stamps ≢ [] → (known.forks ≡ false) × AreNewlyForked old new stamps
  newly_forked (inl (none, why)) some = absurd (some none)
  newly_forked (inr (unasked, found)) some = (
    unasked,
    record {
      rise = found.rise;
      all = λ stamp. (
        λ m.
            let b = (found.all stamp).0 m in
            (by_cases (is_forked_in old (stamp_at stamp)) (λ e. absurd (b.1 (((is.forked unasked).all stamp).1 (e, λ none. none)))) (λ e. e), b.0),
        λ n. (found.all stamp).1 (n.1, λ m. true≢false (sym (((is.forked unasked).all stamp).0 m).0 ∙ n.0)),
      );
    },
  )
