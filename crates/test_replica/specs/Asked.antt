-- The calls of the tests, and what they give, as those of the law of one run.
use Rattle.std.specs.Prelude.{◌≤◌, All, List, Result, Ok, Err, Vec}
use Rattle.desk_memory.specs.declared.NoMemory.{NoMemory}
use Rattle.desk_ops.specs.Op.{IsLawful}
use Rattle.desk_ops.specs.OpSet.{OpSet, max_ops, size}
use Rattle.desk_replica.specs.Calls.{Call, Answer}
use Rattle.desk_replica.specs.Calls as law
use Rattle.test_replica.specs.declared.asked.Asked.{Asked}
use Rattle.test_replica.specs.declared.asked.Asked.TheVariants as asked
use Rattle.test_replica.specs.declared.asked.Given.{Given}
use Rattle.test_replica.specs.declared.asked.Given.TheVariants as given

-- where a merge reads a replica of this set
abbrev pub call_of : OpSet → Asked → Call
call_of other (asked.Insert place symbol) = law.Insert place symbol
call_of other (asked.Delete place) = law.Delete place
call_of other (asked.Set key value) = law.Set key value
call_of other (asked.Take op) = law.Take op
call_of other (asked.TakeAll ops) = law.TakeAll ops.now
call_of other asked.Merge = law.Merge other
call_of other (asked.Reserve n) = law.Reserve n
call_of other asked.Site = law.Site
call_of other asked.Length = law.Length
call_of other (asked.HasAll ops) = law.HasAll ops.now
call_of other asked.Text = law.Text
call_of other asked.Letters = law.Letters
call_of other asked.Settings = law.Settings
call_of other asked.Faults = law.Faults
call_of other asked.Order = law.Order
call_of other (asked.Range from until) = law.Range from until
call_of other asked.Feed = law.Feed

-- what the contract of the call requires of a replica of this set
abbrev pub MayAsk : OpSet → Asked → Type 0
MayAsk ops (asked.Take op) = IsLawful op
MayAsk ops (asked.TakeAll list) = All IsLawful list.now
MayAsk ops (asked.Reserve n) = n ≤ max_ops
MayAsk ops (asked.Range from until) = (from ≤ until) × (until ≤ size ops)
MayAsk ops _ = Unit {0}

-- the list that was read
abbrev pub items_of : {X A : Type 0} → Result (Vec X A) NoMemory → Result (List X) NoMemory
items_of (Ok list) = Ok list.items
items_of (Err why) = Err why

abbrev pub answer_of : {A : Type 0} → Given A → Answer
answer_of (given.Edited result) = law.Edited result
answer_of (given.Taken result) = law.Taken result
answer_of (given.Joined result) = law.Joined result
answer_of (given.Reserved result) = law.Reserved result
answer_of (given.Symbols result) = law.Symbols (items_of result)
answer_of (given.CopyFaults result) = law.CopyFaults (items_of result)
answer_of (given.Operations result) = law.Operations (items_of result)
answer_of (given.Bytes result) = law.Bytes (items_of result)
answer_of (given.Number n) = law.Number n
answer_of (given.Truth is) = law.Truth is
answer_of (given.Values settings) = law.Values settings
