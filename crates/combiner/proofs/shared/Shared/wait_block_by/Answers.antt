use Rattle.combiner.proofs.Turns.{waiting_block_answered, waiting_block_back}
use Rattle.combiner.proofs.shared.Shared.wait_block_by.Goals as goal

pub returns-in-AnsweredBlock-clause-number : goal.returns-in-AnsweredBlock-clause-number
returns-in-AnsweredBlock-clause-number g c = let told = c.in-AnsweredBlock.ensures.told in (waiting_block_answered _ _ _ _ _ told.keeps told.block_answered).0.number

pub returns-in-AnsweredBlock-clause-bounds : goal.returns-in-AnsweredBlock-clause-bounds
returns-in-AnsweredBlock-clause-bounds g c = let told = c.in-AnsweredBlock.ensures.told in (waiting_block_answered _ _ _ _ _ told.keeps told.block_answered).0.bounds

pub returns-in-AnsweredBlock-clause-idle : goal.returns-in-AnsweredBlock-clause-idle
returns-in-AnsweredBlock-clause-idle g c = let told = c.in-AnsweredBlock.ensures.told in (waiting_block_answered _ _ _ _ _ told.keeps told.block_answered).0.idle

pub returns-in-AnsweredBlock-clause-later : goal.returns-in-AnsweredBlock-clause-later
returns-in-AnsweredBlock-clause-later g c = let told = c.in-AnsweredBlock.ensures.told in (waiting_block_answered _ _ _ _ _ told.keeps told.block_answered).0.later

pub returns-in-AnsweredBlock-clause-notes : goal.returns-in-AnsweredBlock-clause-notes
returns-in-AnsweredBlock-clause-notes g c = let told = c.in-AnsweredBlock.ensures.told in (waiting_block_answered _ _ _ _ _ told.keeps told.block_answered).0.notes

pub returns-in-AnsweredBlock-clause-answered : goal.returns-in-AnsweredBlock-clause-answered
returns-in-AnsweredBlock-clause-answered g c = let told = c.in-AnsweredBlock.ensures.told in (waiting_block_answered _ _ _ _ _ told.keeps told.block_answered).1

pub returns-in-OutOfMemoryBlock-clause-number : goal.returns-in-OutOfMemoryBlock-clause-number
returns-in-OutOfMemoryBlock-clause-number g c = let told = c.in-OutOfMemoryBlock.ensures.told in (waiting_block_back _ _ _ _ told.keeps told.block_back).0.number

pub returns-in-OutOfMemoryBlock-clause-bounds : goal.returns-in-OutOfMemoryBlock-clause-bounds
returns-in-OutOfMemoryBlock-clause-bounds g c = let told = c.in-OutOfMemoryBlock.ensures.told in (waiting_block_back _ _ _ _ told.keeps told.block_back).0.bounds

pub returns-in-OutOfMemoryBlock-clause-idle : goal.returns-in-OutOfMemoryBlock-clause-idle
returns-in-OutOfMemoryBlock-clause-idle g c = let told = c.in-OutOfMemoryBlock.ensures.told in (waiting_block_back _ _ _ _ told.keeps told.block_back).0.idle

pub returns-in-OutOfMemoryBlock-clause-later : goal.returns-in-OutOfMemoryBlock-clause-later
returns-in-OutOfMemoryBlock-clause-later g c = let told = c.in-OutOfMemoryBlock.ensures.told in (waiting_block_back _ _ _ _ told.keeps told.block_back).0.later

pub returns-in-OutOfMemoryBlock-clause-notes : goal.returns-in-OutOfMemoryBlock-clause-notes
returns-in-OutOfMemoryBlock-clause-notes g c = let told = c.in-OutOfMemoryBlock.ensures.told in (waiting_block_back _ _ _ _ told.keeps told.block_back).0.notes

pub returns-in-OutOfMemoryBlock-clause-back : goal.returns-in-OutOfMemoryBlock-clause-back
returns-in-OutOfMemoryBlock-clause-back g c = let told = c.in-OutOfMemoryBlock.ensures.told in (waiting_block_back _ _ _ _ told.keeps told.block_back).1

pub returns-in-OutOfMemoryBlock-clause-record_kept : goal.returns-in-OutOfMemoryBlock-clause-record_kept
returns-in-OutOfMemoryBlock-clause-record_kept g c = let told = c.in-OutOfMemoryBlock.ensures.told in (waiting_block_back _ _ _ _ told.keeps told.block_back).2
