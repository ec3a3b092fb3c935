-- What is written reads back, since the body fits 32 bits.
use Rattle.std.proofs.Common.{arith}
use Rattle.model.specs.Record.{fields_of, write_record}
use Rattle.record.specs.Written.{written}
use Rattle.record.proofs.ReadsBack.{reads_back}
use Rattle.record.proofs.write.Goals as goal

pub returns-in-Call-Send-clause-result_value : goal.returns-in-Call-Send-clause-result_value
unfolding fields_of written write_record
returns-in-Call-Send-clause-result_value c = reads_back _ _ (grind arith) (grind arith)

pub returns-in-Call-Receive-clause-result_value : goal.returns-in-Call-Receive-clause-result_value
unfolding fields_of written write_record
returns-in-Call-Receive-clause-result_value c = reads_back _ _ (grind arith) (grind arith)

pub returns-in-Call-Begin-clause-result_value : goal.returns-in-Call-Begin-clause-result_value
unfolding fields_of written write_record
returns-in-Call-Begin-clause-result_value c = reads_back _ _ (grind arith) (grind arith)

pub returns-in-Call-PhysicalCheckpoint-clause-result_value : goal.returns-in-Call-PhysicalCheckpoint-clause-result_value
unfolding fields_of written write_record
returns-in-Call-PhysicalCheckpoint-clause-result_value c = reads_back _ _ (grind arith) (grind arith)

pub returns-in-Call-LogicalCheckpoint-clause-result_value : goal.returns-in-Call-LogicalCheckpoint-clause-result_value
unfolding fields_of written write_record
returns-in-Call-LogicalCheckpoint-clause-result_value c = reads_back _ _ (grind arith) (grind arith)

pub returns-in-Call-SendMarker-clause-result_value : goal.returns-in-Call-SendMarker-clause-result_value
unfolding fields_of written write_record
returns-in-Call-SendMarker-clause-result_value c = reads_back _ _ (grind arith) (grind arith)

pub returns-in-Call-Commit-clause-result_value : goal.returns-in-Call-Commit-clause-result_value
unfolding fields_of written write_record
returns-in-Call-Commit-clause-result_value c = reads_back _ _ (grind arith) (grind arith)

pub returns-in-Call-Abort-clause-result_value : goal.returns-in-Call-Abort-clause-result_value
unfolding fields_of written write_record
returns-in-Call-Abort-clause-result_value c = reads_back _ _ (grind arith) (grind arith)

pub returns-in-Recover-clause-result_value : goal.returns-in-Recover-clause-result_value
unfolding fields_of written write_record
returns-in-Recover-clause-result_value c = reads_back _ _ (grind arith) (grind arith)
