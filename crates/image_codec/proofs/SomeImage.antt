-- Bytes spell an image, or have a first fault.
use Rattle.std.proofs.Common.{◌≡◌, ℕ, ◌-◌, ◌⊎◌, inl, inr, List, length, refl, Ok, Err}
use Rattle.image_codec.specs.declared.fault.ImageFault.{ImageFault}
use Rattle.image_model.specs.declared.image.Image.{Image}
use Rattle.image_codec.specs.{declared.parts.Parts.{Parts}, Fits.{FitsFormat}, Laws.{SpellOrFail, SpellingIsRead}, ImageReading.{all_at}}
use Rattle.image_fields.specs.Reading.{AreBytes, Read}
use Rattle.image_codec.specs.{ImageReading.{read_image}, Spelling.{spelling}}
use Rattle.image_codec.proofs.{DecodeLaws.{image_of, its_spelling, its_reading, its_fault}, GoodOfValid.{read_again}, PartsLaws.{GoodParts, all_takes}}
use Rattle.image_codec.proofs.ValidOfGood.{valid_parts, alone_parts, fits_parts, sites_parts}

abbrev of_parts : (p : Parts) → GoodParts p → Image
of_parts p good = image_of p (valid_parts p good) (record { its_version = alone_parts p good _ refl; sites = sites_parts p good _ refl refl })

answer_of : (bytes : List ℕ) → AreBytes bytes → (read : Read Parts) → all_at bytes ≡ read → ((i : Image) × FitsFormat i × (spelling i ≡ bytes)) ⊎ ((f : ImageFault) × (read_image bytes ≡ Err f))
answer_of bytes are (Ok (p, rest)) e =
    let good : GoodParts p = (all_takes bytes p rest are e).good in
    inl (of_parts p good, fits_parts p good, its_spelling bytes (of_parts p good) rest are e)
answer_of bytes are (Err f) e = inr (_, its_fault bytes f (length bytes - f.left) e refl)

pub spell_or_fail : SpellOrFail
spell_or_fail bytes are = answer_of bytes are (all_at bytes) refl

pub spelling_is_read : SpellingIsRead
spelling_is_read i fits = its_reading (spelling i) _ _ (read_again i fits)
