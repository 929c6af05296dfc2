use Rattle.std.proofs.Common.{false, refl, subst, true}
use Rattle.std.specs.Prelude.{Some, Ok, Err}
use Rattle.feed_stored.specs.Fault.{IsUnopened}
use Rattle.feed_check.specs.Lines.{SaysFeed}
use Rattle.feed_check.specs.Words.{Crowded, Wrong, crowded_words, feed_fault_words, set_words}
use Rattle.feed_check.proofs.Said.{crowded, first_fault, said}
use Rattle.feed_check.proofs.feeds.feed_reported.Goals as goal

pub returns-in-Ok : goal.returns-in-Ok
returns-in-Ok g c =
    let set = c.in-Ok.replica.ops in
    said c.set_reported.result (set_words set) true (SaysFeed c.args.bytes.items) (Ok set, c.in-Ok.ensures.ok, refl, refl) c.set_reported.ensures.text c.set_reported.ensures.well

pub returns-in-Err-Feed : goal.returns-in-Err-Feed
returns-in-Err-Feed g c =
    let fault = c.in-Err-Feed.fault in
    let first = first_fault c.args.bytes.items fault (subst (IsUnopened (Some c.args.bytes.items)) c.in-Err-Feed.field-0-is c.in-Err-Feed.ensures.err) in
    said c.wrong_reported.result (feed_fault_words fault) false (SaysFeed c.args.bytes.items) (Err (Wrong fault), first, refl, refl) c.wrong_reported.ensures.text c.wrong_reported.ensures.well

pub returns-in-Err-Opening : goal.returns-in-Err-Opening
returns-in-Err-Opening g c =
    let many = crowded c.args.bytes.items c.in-Err-Opening.field-0-0 (subst (IsUnopened (Some c.args.bytes.items)) c.in-Err-Opening.field-0-is c.in-Err-Opening.ensures.err) in
    said c.crowded_reported.result crowded_words false (SaysFeed c.args.bytes.items) (Err Crowded, many, refl, refl) c.crowded_reported.ensures.text c.crowded_reported.ensures.well
