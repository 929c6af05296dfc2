-- The sites of a world, each with the set of operations that it holds.
use Rattle.std.specs.Prelude.{◌≡◌, ℕ, List, [], ◌∷◌, map, length, nat_eq, Bool, true, ◌&&◌, cond, Some, IfSome}
use Rattle.std.specs.List.{IsDistinct, list_any}
use Rattle.std.specs.Ordering.{nat_cmp}
use Rattle.std.specs.FinMap as fin
use Rattle.std.specs.Map.{lookup}
use Rattle.std.specs.Coded.{Coded, coded_ℕ}
use Rattle.desk_ops.specs.declared.op.Op.{Op}
use Rattle.desk_ops.specs.OpSet.{OpSet, op_set_code, has_op, AllLawful}
use Rattle.desk_replica.specs.State.{State}

abbrev pub Sites : Type 0
Sites = fin.FinMap nat_cmp OpSet

abbrev pub sites_code : Coded Sites
sites_code = fin.code coded_ℕ op_set_code

abbrev pub no_sites : Sites
no_sites = fin.empty

-- some site holds the operation
abbrev pub is_held : Sites → Op → Bool
is_held sites op = list_any (λ set. has_op set op) (fin.values sites)

-- some site holds each of the operations
abbrev pub all_held : Sites → List Op → Bool
all_held sites [] = true
all_held sites (op ∷ ops) = is_held sites op && all_held sites ops

-- what each site holds is lawful
abbrev pub AreLawful : Sites → Type 0
AreLawful sites = (n : ℕ) → IfSome (fin.get sites n) AllLawful

-- ---- how the sites are kept

-- what the entries say
abbrev pub sites_of : List (ℕ × State) → Sites
sites_of entries = fin.from_entries (map (λ e. (e.0, e.1.ops)) entries)

-- each site stands once, under its own number, and what it holds is lawful
pub record IsKept (entries : List (ℕ × State)) : Type 0 where
  pub distinct : IsDistinct nat_eq (map (λ e. e.0) entries)
  pub counted : fin.len (sites_of entries) ≡ length entries
  pub numbered : (n : ℕ) → IfSome (lookup (nat_eq n) entries) (λ s. s.site ≡ n)
  pub lawful : (n : ℕ) → IfSome (lookup (nat_eq n) entries) (λ s. AllLawful s.ops)

-- the entries, but for the replica of one site
pub record IsUpdated (old new : List (ℕ × State)) (n : ℕ) (s t : State) : Type 0 where
  pub there : lookup (nat_eq n) old ≡ Some s
  pub entries : (q : ℕ) → lookup (nat_eq q) new ≡ cond (nat_eq n q) (Some t) (lookup (nat_eq q) old)
  pub distinct : IsDistinct nat_eq (map (λ e. e.0) new)
  pub as_many : length new ≡ length old
  pub named : t.site ≡ s.site
