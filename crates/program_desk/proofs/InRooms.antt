-- What is done in a room, by what is done with all the words.
use Rattle.std.proofs.Common.{◌≡◌, ◌∙◌, ◌⊎◌, ◌≤◌, inl, inr, ℕ, Bool, true, List, Option, Result, Ok, Err, sym, subst, arith}
use Rattle.std.specs.Prelude.{IfErr, IfOk}
use Rattle.clap.specs.Words.{Text}
use Rattle.feed_files.specs.Files.{Reads, Shelf, Stays}
use Rattle.feed_files.specs.declared.files.FileRefusal.{FileRefusal}
use Rattle.feed_files.specs.Files.{IsCounted}
use Rattle.feed_files.specs.declared.files.FileRefusal.TheVariants as refusals
use Rattle.feed_files.proofs.Shelves.{same_shelf, stays_same}
use Rattle.feed_check.specs.Room.{room_name}
use Rattle.program_words.specs.Words.{AsksNothing}
use Rattle.program_desk.specs.Completed.{wants_room}
use Rattle.program_desk.specs.Headlines.{said_line}
use Rattle.program_desk.specs.Rooms.{AreAll, IsFilled, IsRefused}
use Rattle.program_desk.specs.Runs.{IsStopped}
use Rattle.program_desk.specs.Told.{Tells}
use Rattle.program_desk.specs.declared.causes.Said.TheVariants as saids

pub stays_so : (before after : Shelf) → after ≡ before → Stays before after
stays_so before after same = subst (λ (s : Shelf). Stays before s) (sym same) (stays_same before)

pub ok_map : {V E : Type 0} (P Q : V → Type 0) → ((v : V) → P v → Q v) → (r : Result V E) → IfOk r P → IfOk r Q
ok_map P Q f (Ok v) p = f v p
ok_map P Q f (Err e) p = tt

pub err_map : {V E : Type 0} (P Q : E → Type 0) → ((e : E) → P e → Q e) → (r : Result V E) → IfErr r P → IfErr r Q
err_map P Q f (Ok v) p = tt
err_map P Q f (Err e) p = f e p

-- the words with what was read, where they want it
pub are_all : (shelf : Shelf) (words all : List Text) (read : Result (List ℕ) FileRefusal) → wants_room words ≡ true → Reads (shelf.kept room_name) read → IsFilled read words all → AreAll shelf words all
are_all shelf words all read wanted reads filled = rw wanted (read, reads, filled)

-- what stopped of all the words stopped in the room
pub stops_so : (words given all : List Text) (first mid last : Shelf) (input before after quiet mute said : Option (List ℕ)) (R W K : Type 0) → AreAll first words all → given ≡ all → mid ≡ first → mute ≡ quiet → (K → last ≡ mid)
    → IsStopped mid last given input before after mute said ⊎ (R × W × K × (whole : Bool) × Tells whole mute said (said_line saids.NoMemory))
    → ((x : List Text) × AreAll first words x × IsStopped first last x input before after quiet said) ⊎ (R × W × (whole : Bool) × IsRefused first last whole quiet said)
stops_so words given all first mid last input before after quiet mute said R W K are same_words same silent kept (inl stopped) =
    inl (all, are, subst (λ ws. IsStopped first last ws input before after quiet said) same_words (subst (λ (s : Shelf). IsStopped s last given input before after quiet said) same (subst (λ q. IsStopped mid last given input before after q said) silent stopped)))
stops_so words given all first mid last input before after quiet mute said R W K are same_words same silent kept (inr (r, w, k, whole, tells)) =
    inr (r, w, whole, (stays_so first last (kept k ∙ same), inr (subst (λ q. Tells whole q said (said_line saids.NoMemory)) silent tells)))

-- and what was refused of them was
pub refused_so : (words given all : List Text) (first mid last : Shelf) (R W K : Type 0) → AreAll first words all → given ≡ all → mid ≡ first → (K → last ≡ mid) → AsksNothing given × R × W × K
    → (x : List Text) × AreAll first words x × AsksNothing x × R × W × Stays first last
refused_so words given all first mid last R W K are same_words same kept (nothing, r, w, k) = (all, are, subst AsksNothing same_words nothing, r, w, stays_so first last (kept k ∙ same))

no_fewer : (a b : ℕ) → b ≡ a → a ≤ b
no_fewer a b same = omega (arith, same)

-- a read of the file that is there, and of one that is not, keeps the shelf
pub kept_shelf : (before after : Shelf) → after.kept ≡ before.kept → after.failures ≡ before.failures → after.held ≡ before.held → after ≡ before
kept_shelf before after kept failures held = same_shelf before after (kept, no_fewer before.failures after.failures failures, held) failures

pub missing_shelf : (why : FileRefusal) (before after : Shelf) → why ≡ refusals.Missing → after.kept ≡ before.kept → IsCounted why before after → after.held ≡ before.held → after ≡ before
missing_shelf why before after missing kept counted held = kept_shelf before after kept (subst (λ w. IsCounted w before after) missing counted) held

-- any refusal leaves the shelf but for the count
pub counted_stays : (why : FileRefusal) (before after : Shelf) → after.kept ≡ before.kept → IsCounted why before after → after.held ≡ before.held → Stays before after
counted_stays refusals.Missing before after kept counted held = (kept, no_fewer before.failures after.failures counted, held)
counted_stays refusals.Device before after kept counted held = (kept, counted.1, held)
counted_stays refusals.Large before after kept counted held = (kept, no_fewer before.failures after.failures counted, held)
counted_stays refusals.NoMemory before after kept counted held = (kept, no_fewer before.failures after.failures counted, held)
