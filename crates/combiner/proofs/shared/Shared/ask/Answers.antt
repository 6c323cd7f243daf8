use Rattle.combiner.proofs.Turns.{waiting_answered, waiting_given_back}
use Rattle.combiner.proofs.shared.Shared.ask.Goals as goal

pub returns-in-Answered-clause-number : goal.returns-in-Answered-clause-number
returns-in-Answered-clause-number g c = let told = c.in-Answered.ensures.told in (waiting_answered _ _ _ _ _ told.keeps told.answered).0.number

pub returns-in-Answered-clause-bounds : goal.returns-in-Answered-clause-bounds
returns-in-Answered-clause-bounds g c = let told = c.in-Answered.ensures.told in (waiting_answered _ _ _ _ _ told.keeps told.answered).0.bounds

pub returns-in-Answered-clause-idle : goal.returns-in-Answered-clause-idle
returns-in-Answered-clause-idle g c = let told = c.in-Answered.ensures.told in (waiting_answered _ _ _ _ _ told.keeps told.answered).0.idle

pub returns-in-Answered-clause-later : goal.returns-in-Answered-clause-later
returns-in-Answered-clause-later g c = let told = c.in-Answered.ensures.told in (waiting_answered _ _ _ _ _ told.keeps told.answered).0.later

pub returns-in-Answered-clause-notes : goal.returns-in-Answered-clause-notes
returns-in-Answered-clause-notes g c = let told = c.in-Answered.ensures.told in (waiting_answered _ _ _ _ _ told.keeps told.answered).0.notes

pub returns-in-Answered-clause-answered : goal.returns-in-Answered-clause-answered
returns-in-Answered-clause-answered g c = let told = c.in-Answered.ensures.told in (waiting_answered _ _ _ _ _ told.keeps told.answered).1

pub returns-in-OutOfMemory-clause-number : goal.returns-in-OutOfMemory-clause-number
returns-in-OutOfMemory-clause-number g c = let told = c.in-OutOfMemory.ensures.told in (waiting_given_back _ _ _ _ told.keeps told.back).0.number

pub returns-in-OutOfMemory-clause-bounds : goal.returns-in-OutOfMemory-clause-bounds
returns-in-OutOfMemory-clause-bounds g c = let told = c.in-OutOfMemory.ensures.told in (waiting_given_back _ _ _ _ told.keeps told.back).0.bounds

pub returns-in-OutOfMemory-clause-idle : goal.returns-in-OutOfMemory-clause-idle
returns-in-OutOfMemory-clause-idle g c = let told = c.in-OutOfMemory.ensures.told in (waiting_given_back _ _ _ _ told.keeps told.back).0.idle

pub returns-in-OutOfMemory-clause-later : goal.returns-in-OutOfMemory-clause-later
returns-in-OutOfMemory-clause-later g c = let told = c.in-OutOfMemory.ensures.told in (waiting_given_back _ _ _ _ told.keeps told.back).0.later

pub returns-in-OutOfMemory-clause-notes : goal.returns-in-OutOfMemory-clause-notes
returns-in-OutOfMemory-clause-notes g c = let told = c.in-OutOfMemory.ensures.told in (waiting_given_back _ _ _ _ told.keeps told.back).0.notes

pub returns-in-OutOfMemory-clause-back : goal.returns-in-OutOfMemory-clause-back
returns-in-OutOfMemory-clause-back g c = let told = c.in-OutOfMemory.ensures.told in (waiting_given_back _ _ _ _ told.keeps told.back).1

pub returns-in-OutOfMemory-clause-record_kept : goal.returns-in-OutOfMemory-clause-record_kept
returns-in-OutOfMemory-clause-record_kept g c = let told = c.in-OutOfMemory.ensures.told in (waiting_given_back _ _ _ _ told.keeps told.back).2
