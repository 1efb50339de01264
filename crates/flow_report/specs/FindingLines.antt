-- The lines of findings (this project's profile).
use Rattle.std.specs.{Prelude.{ℕ, ◌==◌, List, [], ◌∷◌, ◌++◌, codes, if◌then◌else◌}, List.{flat_map}}
use Rattle.osek_values.specs.{Hooks.{startup, shutdown, error, post_task}, Numbers.{hexadecimal}}
use Rattle.osek_standard.specs.{declared.app.App.{App}, Apps.{the_task, the_alarm}}
use Rattle.trace_text.specs.PointTexts.{block_text}
use Rattle.flow_report.specs.declared.finding.Finding.{Finding}
use Rattle.flow_report.specs.declared.finding.Finding.TheVariants as finding

-- a hook as a line of a trace names it
abbrev pub hook_name : ℕ → List ℕ
hook_name h =
    if h == error then codes "Error" else if h == startup then codes "Startup" else if h == shutdown then codes "Shutdown"
    else if h == post_task then codes "PostTask" else codes "PreTask"

module _ (app : App) where
  abbrev pub finding_words : Finding → List ℕ
  finding_words (finding.Suspended t) = codes "suspended " ++ (the_task app t.0).name
  finding_words (finding.Unarmed a) = codes "unarmed " ++ (the_alarm app a.0).name
  finding_words (finding.Unset t m) = codes "unset " ++ (the_task app t.0).name ++ codes " " ++ hexadecimal m.0
  finding_words (finding.Silent h) = codes "silent " ++ hook_name h.0
  finding_words (finding.Free b) = codes "free " ++ block_text b.0
  finding_words (finding.Dead b) = codes "dead " ++ block_text b.0

  abbrev pub finding_line : Finding → List ℕ
  finding_line f = finding_words f ++ 10 ∷ []

-- What is reported of an application: the lines of findings.
abbrev pub report_text : App → List Finding → List ℕ
report_text app findings = flat_map (finding_line app) findings
