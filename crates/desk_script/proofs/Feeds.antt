-- Runs on a stored feed.
use Rattle.std.proofs.Common.{refl, ◌≡◌, ℕ, ◌≤◌, inl, inr, List, ap, cond, subst, sym, ◌∙◌, arith}
use Rattle.std.proofs.Math.Nat.{eq-or-lt_of_le}
use Rattle.std.specs.Prelude.{◌⊎◌, Bool, true, false, MatchBool, Option, Some, None}
use Rattle.std.specs.Cmp.{nat_cmp_total}
use Rattle.std.proofs.lemmas.Cmp.{eq_by_cmp_equiv}
use Rattle.std.specs.FinMap as fin
use Rattle.desk_ops.specs.declared.op.Op.{Op}
use Rattle.desk_ops.specs.OpSet.{OpSet, no_ops, with_all}
use Rattle.feed_files.specs.declared.files.FileRefusal.{FileRefusal}
use Rattle.feed_files.specs.declared.files.FileRefusal.TheVariants as refusals
use Rattle.feed_files.specs.Files.{HasFailed, HasRisen, IsCounted, Shelf}
use Rattle.feed_stored.specs.declared.last_fault.LastFault.{LastFault}
use Rattle.feed_stored.specs.declared.last_fault.LastFault.TheVariants as lasts
use Rattle.script_world.specs.Sites.{Sites, no_sites}
use Rattle.desk_script.specs.Desk.{Desk, KeepsSites}
use Rattle.feed_stored.specs.declared.fault.OpenFault.{OpenFault}
use Rattle.feed_stored.specs.declared.fault.OpenFault.TheVariants as openings
use Rattle.desk_script.specs.declared.fault.RoomFault.TheVariants as rooms
use Rattle.desk_script.specs.declared.fault.RunFault.{RunFault}
use Rattle.desk_script.specs.declared.fault.RunFault.TheVariants as faults
use Rattle.desk_script.specs.declared.sheet.Mode.{Mode}
use Rattle.desk_script.specs.declared.sheet_fault.SheetFault.{SheetFault}
use Rattle.desk_script.specs.declared.sheet_fault.SheetFault.TheVariants as sheets
use Rattle.desk_script.specs.Fault.{IsOfLines, of_file, of_letting, of_opening}
use Rattle.feed_stored.specs.Stored.{Stores}
use Rattle.desk_script.specs.FeedRun.{IsBarred, IsBroken, IsLetIn, IsStoppedBy, IsUnbegun, one_site}
use Rattle.feed_stored.specs.Room.{is_compared}

-- the site of the feed is there to the end
pub is_there : (n : ℕ) (ops : List Op) (start later : Sites) → start ≡ one_site n ops → KeepsSites start later → (set : OpSet) × (fin.get later n ≡ Some set)
is_there n ops start later is keeps =
    let got : fin.get (one_site n ops) n ≡ Some (with_all no_ops ops) = fin.get-insert nat_cmp_total no_sites n (with_all no_ops ops) n ∙ ap (λ b. cond b (Some (with_all no_ops ops)) (fin.get no_sites n)) ((eq_by_cmp_equiv nat_cmp_total).refl n) in
    keeps n (with_all no_ops ops) (subst (λ (s : Sites). fin.get s n ≡ Some (with_all no_ops ops)) (sym is) got)

-- memory may run out for the site of what was opened
pub unbegun : (read : Option (List ℕ)) (ops : List Op) → Stores read ops → IsUnbegun read openings.NoMemory
unbegun (Some bytes) ops stores = inl (inr (ops, stores))
unbegun None ops stores = inr (refl, refl)

-- how often the device failed, by a refusal
pub counts_up : (why : FileRefusal) (before after : Shelf) → IsCounted why before after → before.failures ≤ after.failures
counts_up refusals.Missing before after counted = omega arith
counts_up refusals.Device before after counted = counted.1
counts_up refusals.Large before after counted = omega arith
counts_up refusals.NoMemory before after counted = omega arith

pub fails_from : (first held last : Shelf) → held.failures ≡ first.failures → HasFailed held last → HasFailed first last
fails_from first held last same failed = subst (λ n. HasRisen n last.failures) same failed

-- a fault of the device is that of the files
pub file_failed : (why : FileRefusal) (before after : Shelf) → of_file why ≡ faults.File refusals.Device → IsCounted why before after → HasFailed before after
file_failed refusals.Missing before after is counted = absurd (cc)
file_failed refusals.Device before after is counted = counted.0
file_failed refusals.Large before after is counted = absurd (cc)
file_failed refusals.NoMemory before after is counted = absurd (cc)

pub no_opening_fails : (why : OpenFault) → of_opening why ≡ faults.File refusals.Device → ⊥
no_opening_fails (openings.Feed fault) is = cc
no_opening_fails (openings.Opening stop) is = cc
no_opening_fails openings.NoMemory is = cc

-- a failure of the store is one of the run
pub fails_later : (first held start mid last : ℕ) → held ≡ first → held ≤ start → start ≤ mid → HasRisen mid last → mid ≤ last → HasRisen first last
fails_later first held start mid last same begun run (inl less) up = inl (omega arith)
fails_later first held start mid last same begun run (inr most) up =
    let below : first ≤ mid = omega arith in
    elim (eq-or-lt_of_le below) [
      | inl all ↦ inr (all ∙ most)
      | inr less ↦ inl (omega arith)
    ]

-- ---- why a run stopped

pub run_same : (one other : RunFault) → sheets.Run one ≡ sheets.Run other → one ≡ other
run_same one other is = cc

pub room_same : (one other : RunFault) → rooms.Run one ≡ rooms.Run other → one ≡ other
room_same one other is = cc

pub run_not_older : (why : RunFault) (made had : ℕ) → sheets.Run why ≡ sheets.Older made had → ⊥
run_not_older why made had is = cc

no_letting_fails : (why : LastFault) → sheets.Run (faults.File refusals.Device) ≡ of_letting why → ⊥
no_letting_fails (lasts.Older made held) is = cc
no_letting_fails lasts.NoMemory is = cc

-- the phase of a feed that was not taken
pub barred_of : (name : List ℕ) (first last : Shelf) (fault : SheetFault) (why : RunFault) → fault ≡ sheets.Run why → IsBarred name first last why
    → ((w : FileRefusal) × (fault ≡ sheets.Run (of_file w))) ⊎ ((w : OpenFault) × (fault ≡ sheets.Run (of_opening w))) ⊎ ((w : LastFault) × (fault ≡ of_letting w))
barred_of name first last fault why e (inl (w, is, untaken)) = inl (w, e ∙ ap (λ f. sheets.Run f) is)
barred_of name first last fault why e (inr (held, taken, inl (w, is, unread))) = inl (w, e ∙ ap (λ f. sheets.Run f) is)
barred_of name first last fault why e (inr (held, taken, inr (w, is, closed))) = inr (inl (w, e ∙ ap (λ f. sheets.Run f) is))

pub broken_not_older : (mode : Option Mode) (old new : Desk) (i b a : Option (List ℕ)) (made had : ℕ) → IsBroken mode old new i b a (sheets.Older made had) → ⊥
broken_not_older None old new i b a made had broken = broken
broken_not_older (Some mode) old new i b a made had broken = broken

barred_fails : (name : List ℕ) (first last : Shelf) (why : RunFault) → why ≡ faults.File refusals.Device → IsBarred name first last why → HasFailed first last
barred_fails name first last why e (inl (w, is, untaken)) = file_failed w first last (sym is ∙ e) untaken.2
barred_fails name first last why e (inr (held, taken, inl (w, is, unread))) = fails_from first held last taken.failures (file_failed w held last (sym is ∙ e) unread.2)
barred_fails name first last why e (inr (held, taken, inr (w, is, closed))) = absurd (no_opening_fails w (sym is ∙ e))

let_in_up : (name : List ℕ) (n : ℕ) (compared : Bool) (start : Desk) (guarded : Shelf) → IsLetIn name n compared start guarded → start.shelf.failures ≤ guarded.failures
let_in_up name n true start guarded (set, there, h) = h.0.1
let_in_up name n false start guarded (set, there, same) = let e : guarded.failures ≡ start.shelf.failures = ap (λ (s : Shelf). s.failures) same in omega arith

-- Device is told only where a device failed
pub device_failed : (name : List ℕ) (n : ℕ) (older : Bool) (first last : Shelf) (i b a : Option (List ℕ)) (fault : RunFault) → fault ≡ faults.File refusals.Device → IsStoppedBy None name n older first last i b a (sheets.Run fault) → HasFailed first last
device_failed name n older first last i b a fault e (inl (same, why, is, barred)) = barred_fails name first last why (sym (run_same fault why is) ∙ e) barred
device_failed name n older first last i b a fault e (inr (inl (same, why, is, out))) = absurd (no_letting_fails why (ap (λ f. sheets.Run f) (sym e) ∙ is))
device_failed name n older first last i b a fault e (inr (inr (read, begun, entered, new, stays, inl (broken, same)))) = absurd (subst IsOfLines e broken.0)
device_failed name n older first last i b a fault e (inr (inr (read, begun, (start, (held, taken, started), sites, guarded), new, stays, inr (answered, why, is, left)))) =
    let up : start.shelf.failures ≤ begun.shelf.failures = let_in_up name n (is_compared older read) start begun.shelf guarded in
    let failed = file_failed why new.shelf last (sym (run_same fault (of_file why) is) ∙ e) left.3 in
    fails_later first.failures held.failures start.shelf.failures new.shelf.failures last.failures taken.failures started.6.1 (omega (arith, up, stays.1)) failed (counts_up why new.shelf last left.3)

-- ---- a test that is known

pub when_so : (b : Bool) (P Q : Type 0) → b ≡ true → P → MatchBool b P Q
when_so b P Q is p = subst (λ (t : Bool). MatchBool t P Q) (sym is) p

pub when_not : (b : Bool) (P Q : Type 0) → b ≡ false → Q → MatchBool b P Q
when_not b P Q is q = subst (λ (t : Bool). MatchBool t P Q) (sym is) q
