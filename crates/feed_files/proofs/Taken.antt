-- What a reader gave before it was not read to its end.
use Rattle.std.proofs.Common.{◌≡◌, ℕ, ◌+◌, ◌<◌, ◌≤◌, List, ◌++◌, arith, length, length-append}
use Rattle.std.specs.Prelude.{Option}
use Rattle.std.specs.Io.KnownBytes.{Consumes}
use Rattle.std.proofs.KnownBytes.{Consumes-trans}
use Rattle.feed_files.specs.Input.{HasTaken}

module _ (before mid after : Option (List ℕ)) (bytes piece : List ℕ) (n most : ℕ) (long : n ≡ length piece) (first : Consumes before mid bytes) (next : Consumes mid after piece) where
  -- more than there may be
  pub too_many : most < length bytes + n → (read : List ℕ) × Consumes before after read × (most < length read)
  too_many more = (bytes ++ piece, Consumes-trans before mid after bytes piece first next, omega (arith, long, length-append bytes piece, more))

  -- some, and no more than that
  pub some_taken : 0 < n → length bytes + n ≤ most → HasTaken most before after
  some_taken some room = (bytes ++ piece, Consumes-trans before mid after bytes piece first next, omega (arith, long, length-append bytes piece, some), omega (arith, long, length-append bytes piece, room))
