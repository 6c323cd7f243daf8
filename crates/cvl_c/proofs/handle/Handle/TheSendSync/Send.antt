-- A handle may go to another thread: with a port as that may, and with none there is nothing to take along.
use base.Shift.{Keyless}
use mir.Raw.{raw}
use denote.Memory.{lone}
use denote.Struct.Struct.{exits_of}
use denote.Struct.Owning.{shape, fields, to}
use denote.Param.Send.{IsSend, AllSend, owning_send, struct_send, sendable}
use Rattle.std.specs.Prelude.{Option, Some, None}
use Rattle.std.proofs.Crossing as heap
use Rattle.std_alloc.proofs.SendSync.{quiet, lies}
use Rattle.std_heap.proofs.Global.TheSendSync as heap_handle
use Rattle.std.specs.Global.{Global}
use denote.RawPtr.{Ptr}
use Rattle.cvl_port.specs.contracts.port.Port as Port
use Rattle.cvl_port.proofs.port.Port.TheSendSync.{the_send as port_send}
use Rattle.cvl_c.specs.Handles.{handle_owns}
use Rattle.cvl_c.specs.contracts.handle.Handle.{the_row, the_type}

owns-Keyless : (alloc : Global) (ptr : Ptr) (port : Option Port.the_row.Denot) → Keyless (handle_owns alloc ptr port)
owns-Keyless alloc ptr None = tt
owns-Keyless alloc ptr (Some port) = (lies Port.the_row port_send ptr port, heap.frees.frees alloc (raw (lone Port.the_row.mir)) ptr)

pub send : IsSend the_row
send =
    let both : AllSend (fields the_type) = (search sendable, (heap_handle.the_field_send, tt)) in
    owning_send the_type both (λ handle. owns-Keyless handle.alloc handle.ptr handle.port)
    (λ exit. quiet (to the_type) (exits_of exit (fields the_type)) ((struct_send (shape the_type) both).leaving exit))
