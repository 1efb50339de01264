-- The bits that AUTO chooses, said of each event by itself.
use Rattle.std.specs.{Prelude.{◌≡◌, ℕ, ◌<◌, ◌^◌, List, Some, None, codes, slice_get}, Int.{bit_at}}
use Rattle.oil_system.specs.declared.system.EventObject.{EventObject}
use Rattle.oil_tree.specs.declared.tree.Object.{Object}
use Rattle.oil_model.specs.{Objects.{objects_of, explicit}, Systems.{events}}

-- the events, in order of declaration
abbrev pub declared : List Object → List Object
declared objects = objects_of (codes "EVENT") objects

-- a bit is taken, when event i chooses
pub data IsTaken (objects : List Object) (i k : ℕ) : Type 0 where
  -- by an explicit mask, wherever its event stands
  stated : (j v : ℕ) (e : Object) → slice_get (declared objects) j ≡ Some e → explicit e ≡ Some v → bit_at v k ≡ 1 → IsTaken objects i k
  -- by what AUTO chose for an earlier event
  chosen : (j : ℕ) (e : Object) (x : EventObject) → j < i → slice_get (declared objects) j ≡ Some e → explicit e ≡ None
      → slice_get (events objects) j ≡ Some x → bit_at x.mask.0 k ≡ 1 → IsTaken objects i k

-- a mask is the lowest of the 64 bits that isn't taken, or empty where each is
pub data IsLowestFree (Taken : ℕ → Type 0) (m : ℕ) : Type 0 where
  lowest : (k : ℕ) → k < 64 → (Taken k → ⊥) → ((l : ℕ) → l < k → Taken l) → m ≡ 2 ^ k → IsLowestFree Taken m
  none_left : ((l : ℕ) → l < 64 → Taken l) → m ≡ 0 → IsLowestFree Taken m
