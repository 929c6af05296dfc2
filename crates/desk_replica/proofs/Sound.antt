-- What a replica keeps stays sound.
use Rattle.std.proofs.Common.{◌≡◌, ℕ, ◌+◌, ◌<◌, ◌≤◌, false, cond, List, [], refl, sym, ap, ◌∙◌, subst, arith}
use Rattle.std.specs.Prelude.{None}
use Rattle.desk_ops.specs.declared.op.Key.{Key}
use Rattle.desk_ops.specs.declared.op.Op.{Op}
use Rattle.desk_ops.specs.Op.{stamp_of, IsLawful}
use Rattle.desk_ops.specs.OpSet.{OpSet, no_ops, has_op, with_op, size, AllLawful, max_ops}
use Rattle.desk_ops.specs.Held.{is_borne_in}
use Rattle.desk_ops.proofs.Stamps.{by_cases}
use Rattle.desk_ops.proofs.Joined.{lawful-with_op}
use Rattle.desk_ops.proofs.Unions.{size-with_op}
use Rattle.desk_ops.proofs.OpSets.{none-lawful}
use Rattle.desk_ops.proofs.Bearers.{op_borne}
use Rattle.std.proofs.lemmas.Bool.{true≢false}
use Rattle.desk_registers.specs.declared.Registers.{Registers}
use Rattle.desk_registers.specs.Registers.{kept}
use Rattle.desk_seq.specs.declared.Entry.{Entry}
use Rattle.desk_walk.specs.Following.{IsSettled, IsArrival}
use Rattle.desk_walk.proofs.Anew.{settled-none, none-size}
use Rattle.desk_replica.specs.JobSettings.{AreKept, kept_op}
use Rattle.desk_replica.specs.Shows.{IsSound, spare_of}
use Rattle.desk_replica.proofs.KeptSets.{kept-new, kept-alike, kept-none}

pub sound-none : (site : ℕ) (h : OpSet) (r : Registers) (es : List Entry) (w : OpSet) (free : ℕ) → 1 ≤ site → h ≡ no_ops → ((key : Key) → kept r key ≡ None) → es ≡ [] → w ≡ no_ops → IsSound site h r es w free
sound-none site h r es w free some e none f k =
    let n : size w ≡ 0 = ap size k ∙ none-size in
    record {
      held = record { numbered = some; lawful = subst AllLawful (sym e) none-lawful };
      within = let m : size h ≡ 0 = ap size e ∙ none-size in omega (arith, m);
      settings = subst (λ (v : OpSet). AreKept v (kept r)) (sym e) (kept-none (kept r) none);
      settled = settled-none h es w e f k;
      few = omega (arith, n);
      fits = omega (arith, n);
    }

-- an operation comes whose stamp none bears
module _ (site : ℕ) (h : OpSet) (o : Op) (r : Registers) (es : List Entry) (w : OpSet) (free : ℕ) (s : IsSound site h r es w free) (lawful : IsLawful o) (new : is_borne_in h (stamp_of o) ≡ false) where
  pub arrival : IsArrival h o es w
  arrival = record { lawful = s.held.lawful; own = lawful; new = new; settled = s.settled }

  pub unheld : has_op h o ≡ false
  unheld = by_cases (has_op h o) (λ e. absurd (true≢false (sym (op_borne h (stamp_of o) (o, e, refl)) ∙ new))) (λ e. e)

  pub sound-more : (g : OpSet) (q : Registers) (fs : List Entry) (v : OpSet) (left : ℕ) → g ≡ with_op h o → ((key : Key) → kept q key ≡ kept_op (kept r) o key) → IsSettled (with_op h o) fs v → size v ≤ size w + 1 → size w < free → free + size v ≤ left + size w + 1 → size h < max_ops → IsSound site g q fs v left
  sound-more g q fs v left e k settled few below l limit =
      let n : size (with_op h o) ≡ size h + 1 = size-with_op h o ∙ ap (λ b. cond b (size h) (size h + 1)) unheld in
      let m = s.few in
      subst (λ (u : OpSet). IsSound site u q fs v left) (sym e) (record {
        held = record { numbered = s.held.numbered; lawful = lawful-with_op h o s.held.lawful lawful };
        within = omega (arith, n, limit);
        settings = kept-alike (with_op h o) (kept_op (kept r) o) (kept q) k (kept-new h o new (kept r) s.settings);
        settled = settled;
        few = omega (arith, n, m, few);
        fits = omega (arith, below, l);
      })

-- all made anew
pub sound-anew : (site : ℕ) (h : OpSet) (r : Registers) (es : List Entry) (w : OpSet) (free : ℕ) → 1 ≤ site → AllLawful h → size h ≤ max_ops → AreKept h (kept r) → IsSettled h es w → size w ≤ size h → size w ≤ free → IsSound site h r es w free
sound-anew site h r es w free some lawful within settings settled few le = record { held = record { numbered = some; lawful = lawful }; within = within; settings = settings; settled = settled; few = few; fits = le }

-- ---- room

pub spare-parts : (n held room free : ℕ) (w : OpSet) → size w ≤ free → n ≤ spare_of held room free w → (n ≤ held) × (n ≤ room) × (size w + n ≤ free)
spare-parts n held room free w le h = (omega arith, omega arith, omega arith)
