-- What is known of a status has a text of its own.
use Rattle.std.proofs.Common.{◌≡◌, List, ℕ, Some, None, refl, sym, ◌∙◌, ap, codes}
use Rattle.std.specs.{Prelude.{if◌then◌else◌}, Str.{bytes_eq}}
use Rattle.osek_values.specs.declared.status.Status.{Status}
use Rattle.osek_values.specs.declared.status.Status.TheVariants as status
use Rattle.image_model.specs.declared.site.Known.{Known}
use Rattle.image_model.specs.declared.site.Known.TheVariants as known
use Rattle.flow_text.specs.FlowLines.{known_text}

abbrev read_status : List ℕ → Status
read_status t =
    if bytes_eq t (codes "E_OK") then status.Ok else (if bytes_eq t (codes "E_OS_ACCESS") then status.Access else (if bytes_eq t (codes "E_OS_CALLEVEL") then status.CallLevel
    else (if bytes_eq t (codes "E_OS_ID") then status.Id else (if bytes_eq t (codes "E_OS_LIMIT") then status.Limit else (if bytes_eq t (codes "E_OS_NOFUNC") then status.NoFunc
    else (if bytes_eq t (codes "E_OS_RESOURCE") then status.Resource else (if bytes_eq t (codes "E_OS_STATE") then status.State else status.Value)))))))

abbrev read_known : List ℕ → Known
read_known t = if bytes_eq t (codes "any") then known.Any else (if bytes_eq t (codes "none") then known.Always None else known.Always (Some (read_status t)))

read_again : (k : Known) → read_known (known_text k) ≡ k
read_again known.Any = refl
read_again (known.Always None) = refl
read_again (known.Always (Some status.Ok)) = refl
read_again (known.Always (Some status.Access)) = refl
read_again (known.Always (Some status.CallLevel)) = refl
read_again (known.Always (Some status.Id)) = refl
read_again (known.Always (Some status.Limit)) = refl
read_again (known.Always (Some status.NoFunc)) = refl
read_again (known.Always (Some status.Resource)) = refl
read_again (known.Always (Some status.State)) = refl
read_again (known.Always (Some status.Value)) = refl

pub known_once : (k l : Known) → known_text k ≡ known_text l → k ≡ l
known_once k l e = sym (read_again k) ∙ ap read_known e ∙ read_again l
