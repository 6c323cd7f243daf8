-- What a handle owns: where it leads to a port, the same as a box of it.
use base.Fml.{Fml, ftrue}
use base.Stored.{Coded}
use denote.RawPtr.{Ptr}
use Rattle.std.specs.Prelude.{Option, Some, None}
use Rattle.std.specs.Coded.{coded_option}
use Rattle.std.specs.Box.Ownership.{box_owns}
use Rattle.std.specs.Global.{Global}
use Rattle.std_heap.specs.contracts.GlobalAllocator.TheImpl.{ghosts}
use Rattle.cvl_port.specs.contracts.port.Port.{the_row}

abbrev pub handle_owns : Global → Ptr → Option the_row.Denot → Fml
handle_owns alloc ptr None = ftrue
handle_owns alloc ptr (Some port) = box_owns (ghosts.dealloc_token alloc) the_row ptr port

abbrev pub maybe_port_coded : Coded (Option the_row.Denot)
maybe_port_coded = coded_option the_row.coded
