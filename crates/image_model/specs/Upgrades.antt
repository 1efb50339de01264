-- What becomes of an image that is upgraded.
use Rattle.std.specs.Prelude.{◌≡◌}
use Rattle.image_model.specs.declared.image.Image.{Image}
use Rattle.image_model.specs.declared.image.Version.TheVariants as version
use Rattle.image_model.specs.Versions.{FitsVersion1Alone}

-- it was of version 1 and is of version 2, with the same application and the same sites; both still fit version 1, so nothing is known at these
pub record IsUpgraded (old new : Image) : Type 0 where
  pub was_one : old.version ≡ version.One
  pub is_two : new.version ≡ version.Two
  pub app : new.app ≡ old.app
  pub sites : new.sites ≡ old.sites
  pub fits : FitsVersion1Alone new.app new.sites

-- it was of version 2, and is as it was
pub record IsNew (old new : Image) : Type 0 where
  pub was_two : old.version ≡ version.Two
  pub same : new ≡ old
