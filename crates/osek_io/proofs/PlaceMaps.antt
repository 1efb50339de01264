-- The files and the rooms of the places of a shelf.
use Rattle.std.proofs.Common.{◌≡◌, ℕ, ◌+◌, ◌≤◌, Bool, true, false, cond, List, [], ◌∷◌, ◌++◌, length, Option, Some, None, option_map, option_and_then, unwrap_or, IsSomeAnd, IfSome, IsSome, refl, sym, ap, subst, ◌∙◌, is_some}
use Rattle.std.specs.{List.{find, position}, Prelude.{slice_set, get_or}, Str.{bytes_eq}, Ordering.{nat_cmp}, Cmp.Lexicographic.{slice_cmp, nat_list_cmp_total}}
use Rattle.std.specs.FinMap.{get, insert, get-insert, get-remove, get-empty, same_map, slice_cmp-IsAntisymmetric, nat_cmp-IsAntisymmetric}
use Rattle.std.proofs.lemmas.{Map.Text.{is_eq-slice_cmp}, Slice.Eq.{bytes_eq-Decides}}
use Rattle.osek_io.specs.{Files.{Files, with_or_without}, MemShelf.{Rooms}, Place.{PlaceState, is_named, files_of, rooms_of}}
use Rattle.osek_io.proofs.FirstOf.{update_first, set_first, find_first, find_none, find-passes}

-- the bytes of a place, and its room
abbrev pub bytes_in : Option PlaceState → Option (List ℕ)
bytes_in o = option_and_then (λ p. p.bytes) o

abbrev pub room_in : Option PlaceState → Option ℕ
room_in o = option_map (λ p. p.room) o

get-with_or_without : (b : Option (List ℕ)) (name : List ℕ) (files : Files) (q : List ℕ) → get (with_or_without files name b) q ≡ cond (bytes_eq q name) b (get files q)
get-with_or_without None name files q = get-remove nat_list_cmp_total files name q ∙ ap (λ t. cond t None (get files q)) (is_eq-slice_cmp q name)
get-with_or_without (Some bytes) name files q = get-insert nat_list_cmp_total files name bytes q ∙ ap (λ t. cond t (Some bytes) (get files q)) (is_eq-slice_cmp q name)

get-room : (room : ℕ) (name : List ℕ) (rooms : Rooms) (q : List ℕ) → get (insert rooms name room) q ≡ cond (bytes_eq q name) (Some room) (get rooms q)
get-room room name rooms q = get-insert nat_list_cmp_total rooms name room q ∙ ap (λ t. cond t (Some room) (get rooms q)) (is_eq-slice_cmp q name)

bytes_by : (t : Bool) (p : PlaceState) (o : Option PlaceState) → bytes_in (cond t (Some p) o) ≡ cond t p.bytes (bytes_in o)
bytes_by true p o = refl
bytes_by false p o = refl

room_by : (t : Bool) (p : PlaceState) (o : Option PlaceState) → room_in (cond t (Some p) o) ≡ cond t (Some p.room) (room_in o)
room_by true p o = refl
room_by false p o = refl

-- What stands at a name is what its first place has.
pub files_at : (places : List PlaceState) (q : List ℕ) → get (files_of places) q ≡ option_and_then (λ p. p.bytes) (find (is_named q) places)
files_at [] q = get-empty (slice_cmp nat_cmp) q
files_at (p ∷ ps) q = get-with_or_without p.bytes p.name (files_of ps) q ∙ ap (λ o. cond (bytes_eq q p.name) p.bytes o) (files_at ps q) ∙ sym (bytes_by (bytes_eq q p.name) p (find (is_named q) ps))

pub rooms_at : (places : List PlaceState) (q : List ℕ) → get (rooms_of places) q ≡ option_map (λ p. p.room) (find (is_named q) places)
rooms_at [] q = get-empty (slice_cmp nat_cmp) q
rooms_at (p ∷ ps) q = get-room p.room p.name (rooms_of ps) q ∙ ap (λ o. cond (bytes_eq q p.name) (Some p.room) o) (rooms_at ps q) ∙ sym (room_by (bytes_eq q p.name) p (find (is_named q) ps))

same_files : (m n : Files) → ((q : List ℕ) → get m q ≡ get n q) → m ≡ n
same_files = same_map nat_list_cmp_total (slice_cmp-IsAntisymmetric nat_cmp-IsAntisymmetric)

same_rooms : (m n : Rooms) → ((q : List ℕ) → get m q ≡ get n q) → m ≡ n
same_rooms = same_map nat_list_cmp_total (slice_cmp-IsAntisymmetric nat_cmp-IsAntisymmetric)

-- A place that passes for its name only: another name's test is false there.
apart : (q name other : List ℕ) (A : Type 0) (b c d : A) → bytes_eq name other ≡ false → cond (bytes_eq q other) c (cond (bytes_eq q name) b d) ≡ cond (bytes_eq q name) b (cond (bytes_eq q other) c d)
apart q name other A b c d e =
    elim (bytes_eq q other) as (λ t. bytes_eq q other ≡ t → cond t c (cond (bytes_eq q name) b d) ≡ cond (bytes_eq q name) b (cond t c d)) [
      | true ↦ λ h. elim (bytes_eq q name) as (λ u. bytes_eq q name ≡ u → c ≡ cond u b c) [
        | true ↦ λ g.
            let one : q ≡ other = (bytes_eq-Decides q other).0 h in
            let two : q ≡ name = (bytes_eq-Decides q name).0 g in
            let three : bytes_eq name other ≡ true = (bytes_eq-Decides name other).1 (sym two ∙ one) in
            absurd cc
        | false ↦ λ g. refl
      ] refl
      | false ↦ λ h. refl
    ] refl

twice : {A : Type 0} (t u : Bool) (b c d : A) → t ≡ u → cond t b d ≡ cond u b (cond t c d)
twice true true b c d e = refl
twice true false b c d e = absurd cc
twice false true b c d e = absurd cc
twice false false b c d e = refl

-- a place in the place of the first of its name
find-first : (p : PlaceState) (ps : List PlaceState) (q : List ℕ) → is_some (find (is_named p.name) ps) ≡ true
    → find (is_named q) (update_first (is_named p.name) (λ _. p) ps) ≡ cond (bytes_eq q p.name) (Some p) (find (is_named q) ps)
find-first p [] q h = absurd cc
find-first p (x ∷ ps) q h =
    elim (bytes_eq p.name x.name) as (λ t. bytes_eq p.name x.name ≡ t → is_some (cond t (Some x) (find (is_named p.name) ps)) ≡ true
    → find (is_named q) (cond t (p ∷ ps) (x ∷ update_first (is_named p.name) (λ _. p) ps)) ≡ cond (bytes_eq q p.name) (Some p) (find (is_named q) (x ∷ ps))) [
      | true ↦ λ e _.
          let same : p.name ≡ x.name = (bytes_eq-Decides p.name x.name).0 e in
          twice (bytes_eq q p.name) (bytes_eq q p.name) (Some p) (Some x) (find (is_named q) ps) refl
          ∙ ap (λ t. cond (bytes_eq q p.name) (Some p) (cond t (Some x) (find (is_named q) ps))) (ap (bytes_eq q) same)
      | false ↦ λ e k.
          ap (λ o. cond (bytes_eq q x.name) (Some x) o) (find-first p ps q k)
          ∙ apart q p.name x.name (Option PlaceState) (Some p) (Some x) (find (is_named q) ps) e
    ] refl h

-- a place behind those that don't have its name
find-last : (p : PlaceState) (ps : List PlaceState) (q : List ℕ) → find (is_named p.name) ps ≡ None
    → find (is_named q) (ps ++ p ∷ []) ≡ cond (bytes_eq q p.name) (Some p) (find (is_named q) ps)
find-last p [] q h = refl
find-last p (x ∷ ps) q h =
    elim (bytes_eq p.name x.name) as (λ t. bytes_eq p.name x.name ≡ t → cond t (Some x) (find (is_named p.name) ps) ≡ None
    → cond (bytes_eq q x.name) (Some x) (find (is_named q) (ps ++ p ∷ [])) ≡ cond (bytes_eq q p.name) (Some p) (cond (bytes_eq q x.name) (Some x) (find (is_named q) ps))) [
      | true ↦ λ e k. absurd cc
      | false ↦ λ e k.
          ap (λ o. cond (bytes_eq q x.name) (Some x) o) (find-last p ps q k)
          ∙ apart q p.name x.name (Option PlaceState) (Some p) (Some x) (find (is_named q) ps) e
    ] refl h

-- what is found where a place of this name was put
abbrev Puts : List PlaceState → PlaceState → List PlaceState → Type 0
Puts new p old = (q : List ℕ) → find (is_named q) new ≡ cond (bytes_eq q p.name) (Some p) (find (is_named q) old)

files_put : (new : List PlaceState) (p : PlaceState) (old : List PlaceState) → Puts new p old → files_of new ≡ with_or_without (files_of old) p.name p.bytes
files_put new p old h =
    same_files _ _ (λ q. files_at new q ∙ ap bytes_in (h q) ∙ bytes_by (bytes_eq q p.name) p (find (is_named q) old)
    ∙ ap (λ o. cond (bytes_eq q p.name) p.bytes o) (sym (files_at old q)) ∙ sym (get-with_or_without p.bytes p.name (files_of old) q))

rooms_put : (new : List PlaceState) (p : PlaceState) (old : List PlaceState) → Puts new p old → rooms_of new ≡ insert (rooms_of old) p.name p.room
rooms_put new p old h =
    same_rooms _ _ (λ q. rooms_at new q ∙ ap room_in (h q) ∙ room_by (bytes_eq q p.name) p (find (is_named q) old)
    ∙ ap (λ o. cond (bytes_eq q p.name) (Some p.room) o) (sym (rooms_at old q)) ∙ sym (get-room p.room p.name (rooms_of old) q))

found : (o : Option PlaceState) (x : PlaceState) → o ≡ Some x → is_some o ≡ true
found o x e = ap is_some e

-- A place was written over the first of its name.
set_puts : (places : List PlaceState) (p : PlaceState) (name : List ℕ) (i : ℕ) (old : PlaceState) → name ≡ p.name → position (is_named name) places ≡ Some i → old ≡ get_or places i old → Puts (slice_set places i p) p places
set_puts places p name i old same at here q =
    let at' : position (is_named p.name) places ≡ Some i = subst (λ (n : List ℕ). position (is_named n) places ≡ Some i) same at in
    ap (λ l. find (is_named q) l) (set_first (is_named p.name) (λ _. p) places i old at' here)
    ∙ find-first p places q (found (find (is_named p.name) places) old (find_first (is_named p.name) places i old at' here))

pub files_set : (places : List PlaceState) (p : PlaceState) (name : List ℕ) (i : ℕ) (old : PlaceState) → name ≡ p.name → position (is_named name) places ≡ Some i → old ≡ get_or places i old
    → files_of (slice_set places i p) ≡ with_or_without (files_of places) p.name p.bytes
files_set places p name i old same at here = files_put _ p places (set_puts places p name i old same at here)

pub rooms_set : (places : List PlaceState) (p : PlaceState) (name : List ℕ) (i : ℕ) (old : PlaceState) → name ≡ p.name → position (is_named name) places ≡ Some i → old ≡ get_or places i old
    → rooms_of (slice_set places i p) ≡ insert (rooms_of places) p.name p.room
rooms_set places p name i old same at here = rooms_put _ p places (set_puts places p name i old same at here)

-- A place came behind the others, none of which has its name.
last_puts : (places : List PlaceState) (p : PlaceState) (name : List ℕ) → name ≡ p.name → position (is_named name) places ≡ None → Puts (places ++ p ∷ []) p places
last_puts places p name same none q =
    find-last p places q (find_none (is_named p.name) places (subst (λ (n : List ℕ). position (is_named n) places ≡ None) same none))

pub files_last : (places : List PlaceState) (p : PlaceState) (name : List ℕ) → name ≡ p.name → position (is_named name) places ≡ None → files_of (places ++ p ∷ []) ≡ with_or_without (files_of places) p.name p.bytes
files_last places p name same none = files_put _ p places (last_puts places p name same none)

pub rooms_last : (places : List PlaceState) (p : PlaceState) (name : List ℕ) → name ≡ p.name → position (is_named name) places ≡ None → rooms_of (places ++ p ∷ []) ≡ insert (rooms_of places) p.name p.room
rooms_last places p name same none = rooms_put _ p places (last_puts places p name same none)

-- The name of the place that was found is the one that was looked for.
name_at : (places : List PlaceState) (name : List ℕ) (i : ℕ) (old : PlaceState) → position (is_named name) places ≡ Some i → old ≡ get_or places i old → name ≡ old.name
name_at places name i old at here = (bytes_eq-Decides name old.name).0 (find-passes (is_named name) places old (find_first (is_named name) places i old at here))

-- The place of a name got other bytes.
pub files_refilled : (places : List PlaceState) (p : PlaceState) (name : List ℕ) (i : ℕ) (old : PlaceState) → p.name ≡ old.name → position (is_named name) places ≡ Some i → old ≡ get_or places i old
    → files_of (slice_set places i p) ≡ with_or_without (files_of places) name p.bytes
files_refilled places p name i old same at here =
    let named : name ≡ p.name = name_at places name i old at here ∙ sym same in
    files_set places p name i old named at here ∙ ap (λ n. with_or_without (files_of places) n p.bytes) (sym named)

room_same : (t : Bool) (p old : PlaceState) (o : Option PlaceState) → p.room ≡ old.room → (t ≡ true → o ≡ Some old) → room_in (cond t (Some p) o) ≡ room_in o
room_same true p old o r h = ap Some r ∙ sym (ap room_in (h refl))
room_same false p old o r h = refl

pub rooms_same : (places : List PlaceState) (p : PlaceState) (name : List ℕ) (i : ℕ) (old : PlaceState) → p.name ≡ old.name → p.room ≡ old.room → position (is_named name) places ≡ Some i → old ≡ get_or places i old
    → rooms_of (slice_set places i p) ≡ rooms_of places
rooms_same places p name i old same room at here =
    let named : name ≡ p.name = name_at places name i old at here ∙ sym same in
    same_rooms _ _ (λ q. rooms_at (slice_set places i p) q ∙ ap room_in (set_puts places p name i old named at here q)
    ∙ room_same (bytes_eq q p.name) p old (find (is_named q) places) room
    (λ t. ap (λ n. find (is_named n) places) ((bytes_eq-Decides q p.name).0 t ∙ sym named) ∙ find_first (is_named name) places i old at here)
    ∙ sym (rooms_at places q))

-- A name without a place has no room.
pub no_room : (places : List PlaceState) (name : List ℕ) → position (is_named name) places ≡ None → IsSome (get (rooms_of places) name) → ⊥
no_room places name none h =
    let e : get (rooms_of places) name ≡ None = rooms_at places name ∙ ap room_in (find_none (is_named name) places none) in
    absurd (let k : is_some (room_in None) ≡ true = sym (ap is_some e) ∙ h in cc)

-- So many more bytes fit into a file that is there.
abbrev pub HasRoom : Option (List ℕ) → Option ℕ → ℕ → Type 0
HasRoom bytes room n = IsSomeAnd bytes (λ b. IsSomeAnd room (λ r. length b + n ≤ r))

-- A name without a place has no file.
pub no_file : (places : List PlaceState) (name : List ℕ) (n : ℕ) → position (is_named name) places ≡ None → HasRoom (get (files_of places) name) (get (rooms_of places) name) n → ⊥
no_file places name n none h =
    subst (λ (o : Option (List ℕ)). HasRoom o (get (rooms_of places) name) n) (files_at places name ∙ ap bytes_in (find_none (is_named name) places none)) h

bytes_here : (places : List PlaceState) (name : List ℕ) (i : ℕ) (old : PlaceState) → position (is_named name) places ≡ Some i → old ≡ get_or places i old → get (files_of places) name ≡ old.bytes
bytes_here places name i old at here = files_at places name ∙ ap bytes_in (find_first (is_named name) places i old at here)

-- The first place of a name has the room.
room_here : (places : List PlaceState) (name : List ℕ) (i : ℕ) (old : PlaceState) (n : ℕ) → position (is_named name) places ≡ Some i → old ≡ get_or places i old
    → HasRoom (get (files_of places) name) (get (rooms_of places) name) n → HasRoom old.bytes (Some old.room) n
room_here places name i old n at here h =
    subst (λ (o : Option ℕ). HasRoom old.bytes o n) (rooms_at places name ∙ ap room_in (find_first (is_named name) places i old at here))
    (subst (λ (o : Option (List ℕ)). HasRoom o (get (rooms_of places) name) n) (bytes_here places name i old at here) h)

if_there : (o : Option (List ℕ)) (room n : ℕ) → HasRoom o (Some room) n → IfSome o (λ b. length b + n ≤ room)
if_there None room n h = absurd h
if_there (Some b) room n h = h

pub fits_here : (places : List PlaceState) (name : List ℕ) (i : ℕ) (old : PlaceState) (n : ℕ) → position (is_named name) places ≡ Some i → old ≡ get_or places i old
    → HasRoom (get (files_of places) name) (get (rooms_of places) name) n → IfSome old.bytes (λ b. length b + n ≤ old.room)
fits_here places name i old n at here h = if_there old.bytes old.room n (room_here places name i old n at here h)

more_bytes : (o : Option (List ℕ)) (room : Option ℕ) (more : List ℕ) (n : ℕ) → HasRoom o room n → option_map (λ b. b ++ more) o ≡ Some (unwrap_or o [] ++ more)
more_bytes None room more n h = absurd h
more_bytes (Some b) room more n h = refl

-- The file of a name got more bytes.
pub files_longer : (places : List PlaceState) (p : PlaceState) (name : List ℕ) (i : ℕ) (old : PlaceState) (more : List ℕ) → p ≡ record { name = old.name; bytes = option_map (λ b. b ++ more) old.bytes; room = old.room }
    → position (is_named name) places ≡ Some i → old ≡ get_or places i old → HasRoom (get (files_of places) name) (get (rooms_of places) name) (length more)
    → files_of (slice_set places i p) ≡ insert (files_of places) name (unwrap_or (get (files_of places) name) [] ++ more)
files_longer places p name i old more is at here h =
    files_refilled places p name i old (ap (λ (x : PlaceState). x.name) is) at here
    ∙ ap (with_or_without (files_of places) name) (ap (λ (x : PlaceState). x.bytes) is ∙ more_bytes old.bytes (Some old.room) more (length more) (room_here places name i old (length more) at here h)
    ∙ ap (λ (o : Option (List ℕ)). Some (unwrap_or o [] ++ more)) (sym (bytes_here places name i old at here)))
