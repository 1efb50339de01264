-- The order of findings: by kind, and then by number.
use Rattle.std.specs.{Prelude.{◌≡◌, ◌⊎◌, ℕ, ◌==◌, ◌<◌, List, if◌then◌else◌}, List.{AllPairs}}
use Rattle.osek_values.specs.Hooks.{startup, shutdown, error, post_task}
use Rattle.flow_report.specs.declared.finding.Finding.{Finding}
use Rattle.flow_report.specs.declared.finding.Finding.TheVariants as finding

-- A place in the order: the kind, the number of what it is of, and the mask of an event.
pub record Rank : Type 0 where
  pub kind : ℕ
  pub number : ℕ
  pub event : ℕ

abbrev pub rank_at : ℕ → ℕ → ℕ → Rank
rank_at k n e = record { kind = k; number = n; event = e }

-- hooks come as a line of a trace names them
abbrev pub hook_place : ℕ → ℕ
hook_place h = if h == error then 0 else if h == startup then 1 else if h == shutdown then 2 else if h == post_task then 3 else 4

abbrev pub rank : Finding → Rank
rank (finding.Suspended t) = rank_at 0 t.0 0
rank (finding.Unarmed a) = rank_at 1 a.0 0
rank (finding.Unset t m) = rank_at 2 t.0 m.0
rank (finding.Silent h) = rank_at 3 (hook_place h.0) 0
rank (finding.Free b) = rank_at 4 b.0 0
rank (finding.Dead b) = rank_at 5 b.0 0

-- it stands before the other
abbrev pub IsBefore : Rank → Rank → Type 0
IsBefore r s = (r.kind < s.kind) ⊎ ((r.kind ≡ s.kind) × ((r.number < s.number) ⊎ ((r.number ≡ s.number) × (r.event < s.event))))

-- by their kinds and then by number, none twice
abbrev pub AreAscending : List Finding → Type 0
AreAscending findings = AllPairs (λ (f g : Finding). IsBefore (rank f) (rank g)) findings
