-- What readers of the last replies tell.
use Rattle.core.specs.Ptr.{Ptr, null_ptr}
use Rattle.std.specs.Prelude.{◌≡◌, ℕ, ℤ, pos, negsuc, Bool, List, length, Option, Some, None, MatchOption, Vec, slice_get}
use Rattle.std.specs.declared.alloc.Global.{Global}
use Rattle.std.specs.Vec.{vec_ptr}
use Rattle.vector_memory.specs.declared.value.Value.TheVariants as values
use Rattle.cvl_text.specs.declared.reply.Reply.TheVariants as replies
use Rattle.cvl_text.specs.declared.reply.Reply.{Reply}
use Rattle.cvl_port.specs.declared.last.Last.{Last}
use Rattle.cvl_port.specs.declared.port.Port.{Port}
use Rattle.cvl_port.specs.Replies.{replies_of}
use Rattle.cvl_c.specs.Answers.{text_of, written_over}

-- 0 where there is a reply of this number, and else -12
abbrev pub HasReply : ℤ → Last → ℕ → Type 0
HasReply status last number = MatchOption (slice_get (replies_of last) number) (status ≡ negsuc 11) (λ _. status ≡ pos 0)

abbrev pub reply_at : Option Port → ℕ → Option Reply
reply_at None number = None
reply_at (Some p) number = slice_get (replies_of p.last) number

-- how many items the reply has, and as many as fit are written
abbrev pub ReadsItems : {X : Type 0} → (Option Reply → List X) → Option Port → ℕ → ℕ → List X → List X → Type 0
ReadsItems items port number count old new = (count ≡ length (items (reply_at port number))) × (new ≡ written_over (items (reply_at port number)) old)

-- the vector of a reply that has integers, and of one that has truth values
abbrev pub ints_in : Option Reply → Option (Vec ℤ Global)
ints_in (Some (replies.Vector (values.Ints xs))) = Some xs
ints_in other = None

abbrev pub bools_in : Option Reply → Option (Vec Bool Global)
bools_in (Some (replies.Vector (values.Bools bs))) = Some bs
bools_in other = None

-- where the items of a vector lie, and how many there are; without a vector nowhere, and none
abbrev pub Lie : {X : Type 0} → Option (Vec X Global) → Ptr → ℕ → Type 0
Lie (Some xs) at count = (at ≡ vec_ptr xs) × (count ≡ length xs.items)
Lie None at count = (at ≡ null_ptr) × (count ≡ 0)

-- the text of a reply; or, below 0, memory was wanted and nothing is written
abbrev pub ReadsText : ℤ → Option Port → ℕ → ℕ → List ℕ → List ℕ → Type 0
ReadsText (pos n) port number length old new = ReadsItems text_of port number length old new
ReadsText (negsuc n) port number length old new = (length ≡ 0) × (new ≡ old)
