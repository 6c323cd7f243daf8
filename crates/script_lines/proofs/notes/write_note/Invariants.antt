use Rattle.script_lines.proofs.notes.write_note.Given as goal

abbrev pub invariant-loop-piece : goal.invariant-loop-piece
invariant-loop-piece g l = g.N.Sink.can_write l.notes
