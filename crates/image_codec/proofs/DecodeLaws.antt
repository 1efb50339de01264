-- From what was read of all bytes to the image.
use Rattle.std.proofs.Common.{◌≡◌, ℕ, ◌-◌, List, length, map, Option, Result, Ok, Err, sym, ap, subst, ◌∙◌}
use Rattle.std.specs.List.{zip}
use Rattle.std.proofs.Props.{props}
use Rattle.osek_standard.specs.{declared.{app.App.{App}, block.Block.{Block}}, Validity.{IsValid, IsValid-prop}}
use Rattle.image_model.specs.Versions.{FitsAlone, FitsAlone-prop}
use Rattle.image_fields.specs.declared.fault.Fault.{Fault}
use Rattle.image_codec.specs.declared.fault.ImageFault.{ImageFault}
use Rattle.image_model.specs.declared.{site.Site.{Site}, image.Image.{Image}}
use Rattle.image_fields.specs.declared.parts.{Header.{Header}, Tables.{Tables}}
use Rattle.image_codec.specs.declared.parts.Parts.{Parts}
use Rattle.image_model.specs.Sites.{AreSites, AreSites-prop}
use Rattle.image_codec.specs.{Spelling.{spelling}, ImageReading.{parts_at, all_at}}
use Rattle.image_fields.specs.{Reading.{AreBytes, Read, ◌>>=◌}, TableReading.{header_at, tables_at}, BlockReading.{blocks_at}}
use Rattle.image_codec.specs.ImageReading.{placed, read_image, parts_of}
use Rattle.image_codec.proofs.{BlockLaws.{Entry}, PartsLaws.{spelling_is, all_takes}, WholeTables.{tables_of_parts}}
use Rattle.image_fields.proofs.BlockLoop.{zip_firsts, zip_seconds}

abbrev some_parts : Header → Tables → List Block → List (Option Site) → List ℕ → Read Parts
some_parts h t bs ss rest = Ok (record { version = h.version; hooks = h.hooks; tables = t; blocks = bs; sites = ss }, rest)

with_lists : (h : Header) (t : Tables) {bs bs' : List Block} {ss ss' : List (Option Site)} (rest : List ℕ) → bs ≡ bs' → ss ≡ ss' → some_parts h t bs ss rest ≡ some_parts h t bs' ss' rest
with_lists h t rest e f = cc

-- the parts in order
pub parts_read : (bytes : List ℕ) (h : Header) (r1 : List ℕ) (t : Tables) (r2 : List ℕ) (bs : List Block) (ss : List (Option Site)) (r3 : List ℕ) → header_at bytes ≡ Ok (h, r1) → tables_at h r1 ≡ Ok (t, r2)
    → blocks_at h.version t h.blocks r2 ≡ Ok (zip bs ss, r3) → length bs ≡ length ss → parts_at bytes ≡ Ok (record { version = h.version; hooks = h.hooks; tables = t; blocks = bs; sites = ss }, r3)
unfolding parts_at
parts_read bytes h r1 t r2 bs ss r3 e1 e2 e3 same =
    ap (λ (r : Read Header). r >>= λ n. tables_at n.0 n.1 >>= λ u. blocks_at n.0.version u.0 n.0.blocks u.1 >>= λ b. some_parts n.0 u.0 (map (λ (x : Entry). x.0) b.0) (map (λ (x : Entry). x.1) b.0) b.1) e1
    ∙ ap (λ (r : Read Tables). r >>= λ u. blocks_at h.version u.0 h.blocks u.1 >>= λ b. some_parts h u.0 (map (λ (x : Entry). x.0) b.0) (map (λ (x : Entry). x.1) b.0) b.1) e2
    ∙ ap (λ (r : Read (List Entry)). r >>= λ b. some_parts h t (map (λ (x : Entry). x.0) b.0) (map (λ (x : Entry). x.1) b.0) b.1) e3
    ∙ with_lists h t r3 (zip_firsts bs ss same) (zip_seconds bs ss same)

pub its_spelling : (bytes : List ℕ) (i : Image) (rest : List ℕ) → AreBytes bytes → all_at bytes ≡ Ok (parts_of i, rest) → spelling i ≡ bytes
its_spelling bytes i rest fits e = spelling_is i ∙ sym (all_takes bytes (parts_of i) rest fits e).spelled

pub its_reading : (bytes : List ℕ) (p : Parts) (rest : List ℕ) → all_at bytes ≡ Ok (p, rest) → read_image bytes ≡ Ok p
unfolding read_image
its_reading bytes p rest e = ap (placed (length bytes)) e

abbrev failed_at : Fault → ℕ → Result Parts ImageFault
failed_at f k = Err (record { rule = f.rule; offset = k })

pub its_fault : (bytes : List ℕ) (f : Fault) (offset : ℕ) → all_at bytes ≡ Err f → offset ≡ length bytes - f.left → read_image bytes ≡ Err (record { rule = f.rule; offset = offset })
unfolding read_image
its_fault bytes f offset e same = ap (placed (length bytes)) e ∙ ap (λ (k : ℕ). failed_at f k) (sym same)

-- ---- images with the same parts are the same

abbrev pub IsValidOf : Parts → Type 0
IsValidOf p = IsValid (tables_of_parts p)

abbrev pub app_of : (p : Parts) → IsValidOf p → App
app_of p v = record {
  hooks = p.hooks;
  tasks = p.tables.tasks;
  isrs = p.tables.isrs;
  counters = p.tables.counters;
  alarms = p.tables.alarms;
  resources = p.tables.resources;
  modes = p.tables.modes;
  blocks = p.blocks;
  valid = v;
}

-- what an image of these parts keeps besides
pub record Keeps (p : Parts) (app : App) : Type 0 where
  pub its_version : FitsAlone p.version app p.sites
  pub sites : AreSites app p.sites

abbrev pub image_of : (p : Parts) (v : IsValidOf p) → Keeps p (app_of p v) → Image
image_of p v k = record { version = p.version; app = app_of p v; sites = p.sites; its_version = k.its_version; valid = k.sites }

Keeps-prop : (p : Parts) (app : App) → IsProp (Keeps p app)
Keeps-prop p app = hlevel (props, FitsAlone-prop, AreSites-prop)

module _ (p : Parts) (v : IsValidOf p) (k : Keeps p (app_of p v)) where
  same_facts : (v' : IsValidOf p) (k' : Keeps p (app_of p v')) → image_of p v k ≡ image_of p v' k'
  same_facts v' =
      subst (λ (u : IsValidOf p). (k' : Keeps p (app_of p u)) → image_of p v k ≡ image_of p u k') (IsValid-prop (tables_of_parts p) v v')
      (λ k'. ap (image_of p v) (Keeps-prop p (app_of p v) k k'))

  same_image : (q : Parts) → p ≡ q → (v' : IsValidOf q) (k' : Keeps q (app_of q v')) → image_of p v k ≡ image_of q v' k'
  same_image q e = subst (λ (r : Parts). (v' : IsValidOf r) (k' : Keeps r (app_of r v')) → image_of p v k ≡ image_of r v' k') e same_facts

abbrev kept_by : (i : Image) → Keeps (parts_of i) i.app
kept_by i = record { its_version = i.its_version; sites = i.valid }

pub image_ext : (i j : Image) → parts_of i ≡ parts_of j → i ≡ j
image_ext i j e = same_image (parts_of i) i.app.valid (kept_by i) (parts_of j) e j.app.valid (kept_by j)
