-- what a listed read leaves
use Rattle.std.proofs.Common.{◌≡◌, ℕ, true, List, Option, Some, None, sym, subst}
use Rattle.std.specs.FinMap.{get}
use Rattle.osek_io.specs.{Counts.{one_more, is_listed}, MemShelf.{ShelfState, after_read}}
use Rattle.osek_io.proofs.mem_shelf.MemShelf.read_piece.Goals as goal

left : (s : ShelfState) (bytes : List ℕ) (file : Option (List ℕ)) (calls faults : ℕ) → Some bytes ≡ file → is_listed s.fails s.calls ≡ true → calls ≡ one_more s.calls → faults ≡ one_more s.read_faults
    → record s { calls = calls; read_faults = faults } ≡ after_read s file
left s bytes None calls faults there listed e f = absurd (cc)
left s bytes (Some b) calls faults there listed e f = rw listed (λ i. record s { calls = e i; read_faults = f i })

failed : (s v : ShelfState) (name bytes : List ℕ) (calls faults : ℕ) → v ≡ s → Some bytes ≡ get v.files name → is_listed v.fails v.calls ≡ true → calls ≡ one_more v.calls → faults ≡ one_more v.read_faults
    → record v { calls = calls; read_faults = faults } ≡ after_read s (get s.files name)
failed s v name bytes calls faults same there listed e f =
    subst (λ (x : ShelfState). record v { calls = calls; read_faults = faults } ≡ after_read x (get x.files name)) same (left v bytes (get v.files name) calls faults there listed e f)

pub returns-in-Some-clause-after : goal.returns-in-Some-clause-after
returns-in-Some-clause-after c =
    failed c.args.self.now _ c.args.name.now c.in-Some.field-0.now c.one_more-self-inside.result c.one_more-self-inside-in-Some.result c.self.view_is
    (rw c.deref-2.ensures.value at c.in-Some.ensures) (sym (rw c.deref.ensures.value at c.if-listed.ensures)) c.one_more-self-inside.ensures c.one_more-self-inside-in-Some.ensures
