-- Faults that are handed out.
use Rattle.std.proofs.Common.{◌≡◌, sym, subst, Result, Ok, Err, OnOk, OnErr, IfErr}
use Rattle.script_lines.specs.declared.fault.RunFault.{RunFault}

-- a fault is handed out as it is
pub handed-out : {T : Type 0} (result : Result T RunFault) (P : RunFault → Type 0) (fault given : RunFault) → result ≡ Err given → given ≡ fault → P fault → IfErr result P
handed-out {T = T} result P fault given e d h = subst (λ (r : Result T RunFault). IfErr r P) (sym e) (subst P (sym d) h)

pub on-err : {T E P : Type 0} (result : Result T E) → P → OnErr result P
on-err (Ok x) h = tt
on-err (Err e) h = h

pub on-ok : {T E P : Type 0} (result : Result T E) → P → OnOk result P
on-ok (Ok x) h = h
on-ok (Err e) h = tt
