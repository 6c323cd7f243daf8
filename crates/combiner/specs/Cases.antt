-- What holds where a call answered so: one word for each answer of `poll` and of `combine`. Of the other answers it says nothing.
use Rattle.std.specs.Global.{Vec}
use Rattle.std.specs.Prelude.{ℕ, Bool, true, false}
use Rattle.cvl_text.specs.declared.call.Call.{Call}
use Rattle.cvl_text.specs.declared.reply.Reply.{Reply}
use Rattle.combiner.specs.declared.answers.Polled.{Polled}
use Rattle.combiner.specs.declared.answers.Polled.TheVariants as poll
use Rattle.combiner.specs.declared.answers.Combined.{Combined}
use Rattle.combiner.specs.declared.answers.Combined.TheVariants as combine

abbrev pub OnIdle : Polled → Type 0 → Type 0
OnIdle poll.Idle fact = fact
OnIdle poll.Waiting fact = Unit {0}
OnIdle (poll.Answered place reply) fact = Unit {0}
OnIdle (poll.OutOfMemory call) fact = Unit {0}
OnIdle (poll.AnsweredBlock place replies) fact = Unit {0}
OnIdle (poll.OutOfMemoryBlock calls) fact = Unit {0}

abbrev pub OnWaiting : Polled → Type 0 → Type 0
OnWaiting poll.Idle fact = Unit {0}
OnWaiting poll.Waiting fact = fact
OnWaiting (poll.Answered place reply) fact = Unit {0}
OnWaiting (poll.OutOfMemory call) fact = Unit {0}
OnWaiting (poll.AnsweredBlock place replies) fact = Unit {0}
OnWaiting (poll.OutOfMemoryBlock calls) fact = Unit {0}

-- of the place and the reply
abbrev pub IfAnswered : Polled → (ℕ → Reply → Type 0) → Type 0
IfAnswered poll.Idle fact = Unit {0}
IfAnswered poll.Waiting fact = Unit {0}
IfAnswered (poll.Answered place reply) fact = fact place reply
IfAnswered (poll.OutOfMemory call) fact = Unit {0}
IfAnswered (poll.AnsweredBlock place replies) fact = Unit {0}
IfAnswered (poll.OutOfMemoryBlock calls) fact = Unit {0}

-- of the call that came back for want of memory
abbrev pub IfBack : Polled → (Call → Type 0) → Type 0
IfBack poll.Idle fact = Unit {0}
IfBack poll.Waiting fact = Unit {0}
IfBack (poll.Answered place reply) fact = Unit {0}
IfBack (poll.OutOfMemory call) fact = fact call
IfBack (poll.AnsweredBlock place replies) fact = Unit {0}
IfBack (poll.OutOfMemoryBlock calls) fact = Unit {0}

-- of the place of the first entry and the replies
abbrev pub IfBlockAnswered : Polled → (ℕ → Vec Reply → Type 0) → Type 0
IfBlockAnswered poll.Idle fact = Unit {0}
IfBlockAnswered poll.Waiting fact = Unit {0}
IfBlockAnswered (poll.Answered place reply) fact = Unit {0}
IfBlockAnswered (poll.OutOfMemory call) fact = Unit {0}
IfBlockAnswered (poll.AnsweredBlock place replies) fact = fact place replies
IfBlockAnswered (poll.OutOfMemoryBlock calls) fact = Unit {0}

-- of the block that came back for want of memory
abbrev pub IfBlockBack : Polled → (Vec Call → Type 0) → Type 0
IfBlockBack poll.Idle fact = Unit {0}
IfBlockBack poll.Waiting fact = Unit {0}
IfBlockBack (poll.Answered place reply) fact = Unit {0}
IfBlockBack (poll.OutOfMemory call) fact = Unit {0}
IfBlockBack (poll.AnsweredBlock place replies) fact = Unit {0}
IfBlockBack (poll.OutOfMemoryBlock calls) fact = fact calls

-- whether it tells what became of what was left
abbrev pub is_told : Polled → Bool
is_told poll.Idle = false
is_told poll.Waiting = false
is_told (poll.Answered place reply) = true
is_told (poll.OutOfMemory call) = true
is_told (poll.AnsweredBlock place replies) = true
is_told (poll.OutOfMemoryBlock calls) = true

abbrev pub OnBusy : Combined → Type 0 → Type 0
OnBusy combine.Busy fact = fact
OnBusy (combine.Served calls waves kernels) fact = Unit {0}

-- of the numbers of calls, waves and kernel runs
abbrev pub IfServed : Combined → (ℕ → ℕ → ℕ → Type 0) → Type 0
IfServed combine.Busy fact = Unit {0}
IfServed (combine.Served calls waves kernels) fact = fact calls waves kernels

abbrev pub OnServed : Combined → Type 0 → Type 0
OnServed combine.Busy fact = Unit {0}
OnServed (combine.Served calls waves kernels) fact = fact
