-- What the numbers that C gets stand for.
use Rattle.std.specs.Prelude.{ℕ, ℤ, pos, negsuc, Bool, ◌==◌, Result, Ok, Err, if◌then◌else◌}
use Rattle.cvl_port.specs.declared.answers.Told.{Told}
use Rattle.cvl_port.specs.declared.answers.Told.TheVariants as told
use Rattle.cvl_port.specs.declared.fault.PostFault.{PostFault}
use Rattle.cvl_port.specs.declared.fault.PostFault.TheVariants as posts

-- why nothing was left: -1 want of memory, -3 no call, -4 no name, -5 not 1 to 1,024 calls, -6 not prepared, -7 a call is left already
abbrev pub post_fault : ℕ → PostFault
post_fault n =
    if n == 0 then posts.OutOfMemory else if n == 2 then posts.BadCall else if n == 3 then posts.BadName else
    if n == 4 then posts.BadCount else if n == 5 then posts.NotPrepared else posts.Occupied

abbrev pub post_answer : ℤ → Result (Unit {0}) PostFault
post_answer (pos n) = Ok tt
post_answer (negsuc n) = Err (post_fault n)

-- 1: it is left. 2: it was answered at once. Below 0 as where nothing was left.
abbrev pub begin_answer : ℤ → Result Bool PostFault
begin_answer (pos n) = Ok (n == 2)
begin_answer (negsuc n) = Err (post_fault n)

-- 0 idle, 1 waiting, 2 answered, 3 a block answered; below 0 want of memory
abbrev pub told_by : ℤ → Told
told_by (pos n) = if n == 0 then told.Idle else if n == 1 then told.Waiting else if n == 2 then told.Answered else told.AnsweredBlock
told_by (negsuc n) = told.OutOfMemory

-- 1: it served. 0: another had the book.
abbrev pub has_served : ℤ → Bool
has_served (pos n) = n == 1
has_served (negsuc n) = n == 64
