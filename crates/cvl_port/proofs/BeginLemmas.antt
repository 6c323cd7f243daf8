-- What is said of a call that was begun, under another name of the fault that it asks for nothing.
use Rattle.std.proofs.Common.{◌≡◌, Bool, true, false, Option, Some, Result, Ok, Err, sym, subst}
use Rattle.cvl_text.specs.Tasks.{Task}
use Rattle.cvl_port.specs.declared.fault.PostFault.{PostFault}
use Rattle.cvl_port.specs.declared.fault.PostFault.TheVariants as posts
use Rattle.cvl_port.specs.declared.port.Port.{Port}
use Rattle.cvl_port.specs.Begun.{AnswersBegin}

-- it asks for something, so that fault does not come
pub begun-as : (r : Result Bool PostFault) (u w : PostFault) (task : Task) (said : Option Task) (p q : Port) → said ≡ Some task → AnswersBegin r u (Some task) p q → AnswersBegin r w said p q
begun-as r u w task said p q is a = subst (λ s. AnswersBegin r w s p q) (sym is) (go r a)
  where
    go : (r : Result Bool PostFault) → AnswersBegin r u (Some task) p q → AnswersBegin r w (Some task) p q
    go (Ok true) a = a
    go (Ok false) a = a
    go (Err posts.Occupied) a = a
    go (Err posts.OutOfMemory) a = a
    go (Err other) a = absurd (let no = a.0.1 in cc)
