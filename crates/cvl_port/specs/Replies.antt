-- The replies that a port took last, as a list.
use Rattle.std.specs.Prelude.{List, [], ◌∷◌}
use Rattle.cvl_text.specs.declared.reply.Reply.{Reply}
use Rattle.cvl_port.specs.declared.last.Last.{Last}
use Rattle.cvl_port.specs.declared.last.Last.TheVariants as last

abbrev pub replies_of : Last → List Reply
replies_of last.Nothing = []
replies_of (last.One reply) = reply ∷ []
replies_of (last.Many replies) = replies.items
