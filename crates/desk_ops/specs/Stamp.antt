-- Stamps: who made an operation, and when.
use Rattle.std.specs.Prelude.{ℕ, ◌≤◌, Bool, not, ◌&&◌, ◌==◌, nat_le}
use Rattle.std.specs.Ordering.{nat_cmp, ordering_then, is_lt}
use Rattle.std.specs.declared.cmp.Ordering.{Ordering}
use Rattle.desk_ops.specs.declared.op.Stamp.{Stamp}

-- by counter, and then by site
unfoldable pub stamp_cmp : Stamp → Stamp → Ordering
stamp_cmp a b = ordering_then (nat_cmp a.counter b.counter) (nat_cmp a.site b.site)

-- whether the two are one
unfoldable pub same : Stamp → Stamp → Bool
same a b = a.counter == b.counter && a.site == b.site

-- whether a is the smaller
unfoldable pub before : Stamp → Stamp → Bool
before a b = is_lt (stamp_cmp a b)

-- the stamp of the head of the copy, which no lawful operation bears
abbrev pub head : Stamp
head = record { counter = 0; site = 0 }

abbrev pub is_head : Stamp → Bool
is_head s = s.counter == 0 && s.site == 0

-- the greatest counter, 2^62
abbrev pub max_counter : ℕ
max_counter = 4611686018427387904

-- counters are 1 to the greatest
abbrev pub is_counter : ℕ → Bool
is_counter n = nat_le 1 n && nat_le n max_counter

-- sites are 1 to 65535: a number of 16 bits, and not 0
abbrev pub is_stamp : Stamp → Bool
is_stamp s = is_counter s.counter && not (s.site == 0)

abbrev pub IsStamp : Stamp → Type 0
IsStamp s = (1 ≤ s.counter) × (s.counter ≤ max_counter) × (1 ≤ s.site)
