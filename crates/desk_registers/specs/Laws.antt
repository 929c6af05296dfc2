-- What is kept after any settings: of each key the value of the greatest stamp.
use Rattle.std.specs.Prelude.{◌≡◌, ℕ, List, [], ◌∷◌, Option}
use Rattle.desk_ops.specs.declared.op.Stamp.{Stamp}
use Rattle.desk_ops.specs.declared.op.Key.{Key}
use Rattle.desk_ops.specs.Lists.{Among}
use Rattle.desk_registers.specs.declared.Kept.{Kept}
use Rattle.desk_registers.specs.Registers.{kept_with, nothing, IsGreatestOf}

-- a value of a key, with the stamp that says which is the newest
pub record Setting : Type 0 where
  pub stamp : Stamp
  pub key : Key
  pub value : ℕ

-- what is kept once settings are taken in turn
abbrev pub kept_after : (Key → Option Kept) → List Setting → Key → Option Kept
kept_after first [] = first
kept_after first (s ∷ ss) = kept_after (kept_with first s.stamp s.key s.value) ss

-- a setting of the key among the settings has this stamp and value
pub record IsSet (settings : List Setting) (key : Key) (stamp : Stamp) (value : ℕ) : Type 0 where
  pub setting : Setting
  pub among : Among setting settings
  pub key_is : setting.key ≡ key
  pub stamp_is : setting.stamp ≡ stamp
  pub value_is : setting.value ≡ value

-- after settings in any order, of each key the one of the greatest stamp is kept
abbrev pub GreatestIsKept : Type 0
GreatestIsKept = (settings : List Setting) (key : Key)
    → IsGreatestOf (IsSet settings key) (kept_after nothing settings key)

-- a stamp sets a key to one value
abbrev pub HasOneValue : List Setting → Key → Type 0
HasOneValue settings key = (stamp : Stamp) (m n : ℕ) → IsSet settings key stamp m → IsSet settings key stamp n → m ≡ n

-- where a stamp sets the key to one value, which is the greatest depends on what the settings are alone, and so not on
-- their order or repetition
abbrev pub OneGreatest : Type 0
OneGreatest = (a b : List Setting) (key : Key) → HasOneValue a key
    → ((stamp : Stamp) (value : ℕ) → IsSet a key stamp value → IsSet b key stamp value)
    → ((stamp : Stamp) (value : ℕ) → IsSet b key stamp value → IsSet a key stamp value)
    → kept_after nothing a key ≡ kept_after nothing b key
