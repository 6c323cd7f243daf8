-- A read or a write that is tried again: what failed before it took and gave nothing.
use Rattle.std.proofs.Common.{ℕ, List, Option, Some, None, Result, Ok, Err, IsErr, subst, refl}
use Rattle.std.specs.Io.KnownBytes.{Keeps, ReadConsumes, WriteAppends}

pub keeps_self : (known : Option (List ℕ)) → Keeps known known
keeps_self None = tt
keeps_self (Some xs) = refl

module _ {E : Type 0} where
  -- a read that failed
  pub keeps_read : (first old new : Option (List ℕ)) (tried : Result ℕ E) (buffer : List ℕ) → Keeps first old → ReadConsumes old new tried buffer → IsErr tried → Keeps first new
  keeps_read None old new tried buffer h r failed = tt
  keeps_read (Some xs) None new tried buffer h r failed = absurd h
  keeps_read (Some xs) (Some ys) new (Ok n) buffer h r failed = absurd cc
  keeps_read (Some xs) (Some ys) new (Err e) buffer h r failed = subst (λ z. Keeps (Some z) new) h r

  -- the read that is the last
  pub read_kept : (first old new : Option (List ℕ)) (tried : Result ℕ E) (buffer : List ℕ) → Keeps first old → ReadConsumes old new tried buffer → ReadConsumes first new tried buffer
  read_kept None None new tried buffer h r = r
  read_kept None (Some ys) new (Ok n) buffer h r = (tt, r.1)
  read_kept None (Some ys) new (Err e) buffer h r = tt
  read_kept (Some xs) None new tried buffer h r = absurd h
  read_kept (Some xs) (Some ys) new tried buffer h r = subst (λ z. ReadConsumes (Some z) new tried buffer) h r

  -- a write that failed
  pub keeps_write : (first old new : Option (List ℕ)) (tried : Result ℕ E) (bytes : List ℕ) → Keeps first old → WriteAppends old new tried bytes → IsErr tried → Keeps first new
  keeps_write None old new tried bytes h w failed = tt
  keeps_write (Some xs) None new tried bytes h w failed = absurd h
  keeps_write (Some xs) (Some ys) new (Ok n) bytes h w failed = absurd cc
  keeps_write (Some xs) (Some ys) new (Err e) bytes h w failed = subst (λ z. Keeps (Some z) new) h w

  -- the write that is the last
  pub write_kept : (first old new : Option (List ℕ)) (tried : Result ℕ E) (bytes : List ℕ) → Keeps first old → WriteAppends old new tried bytes → WriteAppends first new tried bytes
  write_kept None None new tried bytes h w = w
  write_kept None (Some ys) new (Ok n) bytes h w = tt
  write_kept None (Some ys) new (Err e) bytes h w = tt
  write_kept (Some xs) None new tried bytes h w = absurd h
  write_kept (Some xs) (Some ys) new tried bytes h w = subst (λ z. WriteAppends (Some z) new tried bytes) h w
