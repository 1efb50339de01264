-- How an image begins (this project's profile).
use Rattle.std.specs.Prelude.{ℕ, List, [], ◌∷◌, ◌++◌, codes}
use Rattle.image_model.specs.declared.image.Version.{Version}
use Rattle.image_model.specs.declared.image.Version.TheVariants as version

abbrev pub version_number : Version → ℕ
version_number version.One = 1
version_number version.Two = 2

-- OSEKFIT and the version
abbrev pub magic : Version → List ℕ
magic v = codes "OSEKFIT" ++ version_number v ∷ []
