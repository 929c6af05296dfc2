-- Calls of `read`, counted by what they gave.
use Rattle.std.proofs.Common.{◌≡◌, ℕ, ◌+◌, ◌<◌, ◌≤◌, List, [], ◌++◌, length, length-append, take, arith}
use Rattle.std.proofs.lemmas.List.{length-take-le}
use Rattle.std.specs.Prelude.{Option}
use Rattle.std.specs.Io.KnownBytes.{Consumes, Keeps}
use Rattle.std.proofs.KnownBytes.{Consumes-kept, Consumes-nil, Consumes-trans}
use Rattle.desk_script.specs.Taking.{IsTakenIn, IsTakenWithin, max_chunk, max_reads}

pub none_taken : (a : Option (List ℕ)) → IsTakenIn 0 a a
none_taken a = ([], Consumes-nil a, omega arith, omega arith)

pub one_more : (n : ℕ) (a b c : Option (List ℕ)) (bytes : List ℕ) → IsTakenIn n a b → Consumes b c bytes → 0 < length bytes → length bytes ≤ max_chunk → IsTakenIn (n + 1) a c
one_more n a b c bytes (taken, gave, low, high) more some few =
    let all : length (taken ++ bytes) ≡ length taken + length bytes = length-append taken bytes in
    (taken ++ bytes, Consumes-trans a b c taken bytes gave more, omega (arith, all, low, some), omega (arith, all, high, few))

-- a call gave so many bytes of its chunk
pub given_more : (n : ℕ) (a b c : Option (List ℕ)) (count : ℕ) (chunk : List ℕ) → IsTakenIn n a b → Consumes b c (take count chunk) → 0 < count → count ≤ length chunk → length chunk ≡ max_chunk → IsTakenIn (n + 1) a c
given_more n a b c count chunk before more some few is =
    let all : length (take count chunk) ≡ count = length-take-le count chunk few in
    one_more n a b c (take count chunk) before more (omega (arith, all, some)) (omega (arith, all, few, is))

-- a call that gave nothing takes nothing
pub still_taken : (n : ℕ) (a b c : Option (List ℕ)) → IsTakenIn n a b → Keeps b c → IsTakenIn n a c
still_taken n a b c (taken, gave, low, high) kept = (taken, Consumes-kept a b c taken gave kept, low, high)

pub end_taken : (n : ℕ) (a b c : Option (List ℕ)) → IsTakenIn n a b → Consumes b c [] → IsTakenIn n a c
end_taken n a b c (taken, gave, low, high) more =
    let all : length (taken ++ []) ≡ length taken + length {A = ℕ} [] = length-append taken [] in
    (taken ++ [], Consumes-trans a b c taken [] gave more, omega (arith, all, low), omega (arith, all, high))
