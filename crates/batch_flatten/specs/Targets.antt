-- How the targets of a block's calls are found by their names.
use Rattle.std.specs.Prelude.{◌≡◌, ◌==◌, ◌||◌, ◌<◌, ℕ, zero, suc, Bool, true, false, List, map, Option, Some, None, slice_index, slice_index_or, if◌then◌else◌}
use Rattle.vector_memory.specs.Names.{bucket_of, same_name}
use Rattle.vector_memory.specs.declared.name.Name.{Name}
use Rattle.cvl_text.specs.declared.call.Call.{Call}
use Rattle.cvl_text.specs.Tasks.{target, task_of}
use Rattle.batch_flatten.specs.declared.targets.Targets.{Targets}

-- the targets of the calls
abbrev pub targets_of : List Call → List (Option Name)
targets_of calls = map (λ call. target (task_of call)) calls

-- the target of the call at this place
abbrev pub target_at : List (Option Name) → ℕ → Option Name
target_at targets place = slice_index_or targets place None

-- the target is this name
abbrev pub is_target : Name → Option Name → Bool
is_target n None = false
is_target n (Some to) = same_name to n

-- the target's name lies in the bucket
abbrev pub lies_in : ℕ → Option Name → Bool
lies_in bucket None = false
lies_in bucket (Some n) = bucket_of n == bucket

-- of the first targets, so many, one is this name
abbrev pub is_found : (ℕ → Option Name) → Name → ℕ → Bool
is_found at n zero = false
is_found at n (suc place) = is_found at n place || is_target n (at place)

-- of the first targets, so many, one more than the place of the last that lies in the bucket; 0 where there is none
abbrev pub last_in : (ℕ → Option Name) → ℕ → ℕ → ℕ
last_in at bucket zero = 0
last_in at bucket (suc place) = if lies_in bucket (at place) then suc place else last_in at bucket place

-- Of the first targets, so many, the table keeps some, and each name among them. It has the last of each bucket, and for each the one
-- before it in its bucket.
pub record IsTable (table : Targets) (at : ℕ → Option Name) (count : ℕ) : Type 0 where
  pub kept : ℕ → Option Name
  pub its : (place : ℕ) (n : Name) → kept place ≡ Some n → at place ≡ Some n
  pub found : (n : Name) → is_found kept n count ≡ is_found at n count
  pub last : (bucket : ℕ) → bucket < 256 → slice_index table.last bucket ≡ last_in kept bucket count
  pub before : (place bucket : ℕ) → place < count → lies_in bucket (kept place) ≡ true → slice_index table.before place ≡ last_in kept bucket place
