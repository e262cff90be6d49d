-- `stream_judge::judge_passed`: a take whose records have no padding, or in which no record has a bad field, has no padding set. Assumes
-- nothing.
use Rattle.std.proofs.Common.{sym, ◌∙◌}
use Rattle.stream_spec.specs.Layout.{size, records, record_count}
use Rattle.stream_spec.specs.Checks.{cycle_checks}
use Rattle.stream_spec.proofs.Legal.{pieces-octets}
use Rattle.stream_record.proofs.Tests.{passed_is}
use Rattle.stream_judge.proofs.Turns.{full_unpadded, found_unpadded}
use Rattle.stream_judge.proofs.judge_passed.Goals.{then-user_rest-ne0+in_ok-find_field, else-user_rest-ne0}
use Rattle.stream_judge.proofs.judge_passed.Goals as goal

pub judge_cycles-requires : goal.judge_cycles-requires
judge_cycles-requires c =
    let s = c.args.take.now.shape in
    let xs = c.args.take.now.octets.now in
    elim c.if-user_rest-ne0.branch [
      | then-user_rest-ne0+in_ok-find_field w ↦
          found_unpadded s 0 (records s xs) (passed_is w.find_field.result (cycle_checks s 0 (records s xs)) w.find_field.ensures _ w.in_ok-find_field.was)
      | else-user_rest-ne0 w ↦
          full_unpadded s (records s xs) (sym c.user_rest.ensures.0 ∙ w.if-user_rest-ne0.false) (pieces-octets (record_count s xs) (size s) xs c.requires)
    ]
