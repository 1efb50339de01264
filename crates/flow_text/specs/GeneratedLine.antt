-- The line that tells of a generated system: what its analysis counts, and how long its trace is (this project's profile).
use Rattle.std.specs.{Prelude.{ℕ, List, [], ◌∷◌, ◌++◌, ◌==◌, length, count_by, codes}, Fmt.{decimal}}
use Rattle.osek_standard.specs.Counts.{points, height}
use Rattle.image_model.specs.declared.image.Image.{Image}
use Rattle.flow_text.specs.{declared.gen_line.{AnalysisCounts.{AnalysisCounts}, TextSize.{TextSize}}, FlowLines.{forms_text}, FormCounts.{site_counts}}

-- of the application of an image, whose table has so many values
abbrev pub analysis_counts : Image → ℕ → AnalysisCounts
analysis_counts i values = record { points = points i.app; height = height i.app; values = values; forms = site_counts i.sites }

-- the bytes of a text, and its lines, of which each ends with LF
abbrev pub text_size : List ℕ → TextSize
text_size text = record { bytes = length text; lines = count_by (λ c. c == 10) text }

abbrev pub gen_line : AnalysisCounts → TextSize → List ℕ
gen_line n text =
    codes "points " ++ decimal n.points ++ codes " height " ++ decimal n.height ++ codes " values " ++ decimal n.values ++ codes " "
    ++ forms_text n.forms ++ codes " bytes " ++ decimal text.bytes ++ codes " lines " ++ decimal text.lines ++ 10 ∷ []
