-- What a port is told of a call that it begins.
use Rattle.std.specs.Prelude.{◌≡◌, Bool, true, false, Option, Some, Result, Ok, Err}
use Rattle.cvl_text.specs.declared.call.Call.{Call}
use Rattle.cvl_text.specs.declared.reply.Reply.{Reply}
use Rattle.cvl_text.specs.Tasks.{Task, task_of}
use Rattle.call_history.specs.History.{Begins}
use Rattle.combiner.specs.Own.{IsEnded, MayHaveMet}
use Rattle.combiner.specs.Standing.{Standing, IsIdle}
use Rattle.combiner.specs.Says.{IsAnsweredTo, leaving}
use Rattle.cvl_port.specs.declared.fault.PostFault.{PostFault}
use Rattle.cvl_port.specs.declared.last.Last.TheVariants.{One}
use Rattle.cvl_port.specs.declared.port.Port.{Port}
use Rattle.cvl_port.specs.Posts.{IsRefusal}

-- The call of an idle caller, which asks for this, was answered at once: place and reply lie in the port.
pub record IsDoneAtOnce (said : Option Task) (p q : Port) : Type 0 where
  pub call : Call
  pub reply : Reply
  pub said_is : said ≡ Some (task_of call)
  pub idle : IsIdle p.caller
  pub last_is : q.last ≡ One reply
  pub answered : IsAnsweredTo call p.caller q.caller q.place reply
  pub ended : IsEnded p.caller q.caller

-- It is left. Place and last replies are as before.
pub record IsLeftOver (said : Option Task) (p q : Port) : Type 0 where
  pub call : Call
  pub tried : Standing
  pub said_is : said ≡ Some (task_of call)
  pub idle : IsIdle p.caller
  pub met : MayHaveMet p.caller tried
  pub left : q.caller ≡ leaving tried call
  pub place_is : q.place ≡ p.place
  pub last_is : q.last ≡ p.last

-- Nothing is left that was not, the record is as before, and nothing that was seen is lost; place and last replies are as before.
pub record IsNotBegun (p q : Port) : Type 0 where
  pub phase : q.caller.phase ≡ p.caller.phase
  pub own : q.caller.own ≡ p.caller.own
  pub later : Begins p.caller.seen q.caller.seen
  pub place_is : q.place ≡ p.place
  pub last_is : q.last ≡ p.last

-- whether it was answered at once, or why it was not begun
abbrev pub AnswersBegin : Result Bool PostFault → PostFault → Option Task → Port → Port → Type 0
AnswersBegin (Ok true) unsaid said p q = IsDoneAtOnce said p q
AnswersBegin (Ok false) unsaid said p q = IsLeftOver said p q
AnswersBegin (Err fault) unsaid said p q = IsRefusal unsaid said p.caller fault × IsNotBegun p q
