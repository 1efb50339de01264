-- what a file that was created leaves
use Rattle.std.proofs.Common.{◌≡◌, ℕ, true, false, List, [], Option, Some, None, is_some, refl, sym, subst}
use Rattle.std.specs.FinMap.{get, insert}
use Rattle.osek_io.specs.{Counts.{one_more, is_listed}, MemShelf.{ShelfState, after_create}}
use Rattle.osek_io.proofs.mem_shelf.MemShelf.create_file.Goals as goal

made : (t s : ShelfState) (name : List ℕ) (room : Option ℕ) → is_some room ≡ true → is_listed s.fails s.calls ≡ false → t.fails ≡ s.fails → t.files ≡ insert s.files name [] → t.rooms ≡ s.rooms → t.most ≡ s.most → t.calls ≡ one_more s.calls
    → t.read_faults ≡ s.read_faults → t.write_faults ≡ s.write_faults → t ≡ after_create s name room
made t s name None there listed fails files rooms most calls reads writes = absurd (cc)
made t s name (Some room) there listed fails files rooms most calls reads writes =
    rw listed (λ i. record { fails = fails i; files = files i; rooms = rooms i; most = most i; calls = calls i; read_faults = reads i; write_faults = writes i })

created : (s v t : ShelfState) (name : List ℕ) → v ≡ s → is_some (get v.rooms name) ≡ true → is_listed v.fails v.calls ≡ false
    → (t.fails ≡ v.fails) × (t.files ≡ insert v.files name []) × (t.rooms ≡ v.rooms) × (t.most ≡ v.most) × (t.calls ≡ one_more v.calls) × (t.read_faults ≡ v.read_faults) × (t.write_faults ≡ v.write_faults)
    → t ≡ after_create s name (get s.rooms name)
created s v t name same there listed parts =
    subst (λ (x : ShelfState). t ≡ after_create x name (get x.rooms name)) same (made t v name (get v.rooms name) there listed parts.0 parts.1 parts.2 parts.3 parts.4 parts.5 parts.6)

pub returns-clause-after : goal.returns-clause-after
returns-clause-after c =
    created c.args.self.now _ _ c.args.name.now c.self.view_is (sym (rw c.deref-else-listed.ensures.value at c.if-not-has_place.ensures)) (sym (rw c.deref.ensures.value at c.if-listed.ensures))
    (refl, assumption, assumption, refl, c.one_more-self-inside.ensures, refl, refl)
