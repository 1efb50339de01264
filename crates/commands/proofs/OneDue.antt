-- One answer is due at most.
use Rattle.abstract_state.specs.{declared.table.PlainTable.{PlainTable}, Tables.{sets_of}}
use Rattle.table_codec.specs.{declared.fault.TableFault.{TableFault}, Faults.{IsFirstFault}, Spelling.{spelling as table_spelling, IsSpellable}}
use Rattle.table_codec.proofs.{ShortTables.{short_is_spellable}, TableFaults.{spelled_once, no_first_fault, one_first_fault}}
use Rattle.flow_check.specs.declared.verdict.Verdict.{Verdict}
use Rattle.flow_check.specs.declared.verdict.Verdict.TheVariants as verdict
use Rattle.flow_check.proofs.VerdictLaws.{one_verdict}
use Rattle.commands.specs.Checking.{SpellTable, IsTableFileFault, IsDenial}
use Rattle.commands.specs.Due.{TableDue, no_table, bad_table, is_table, CheckDue, agreed, denied, ImageIsJudged, certify_end, IsCertifiedBy, WatchDue, no_record, too_long, is_watched}
use Rattle.commands.proofs.OneTable.{one_table}
use Rattle.commands.specs.Watching.{IsWatched, watched_by}
use Rattle.flow_watch.proofs.FirstAlarms.{one_alarm}
use Rattle.command_runs.specs.declared.stop.Denial.{Denial}
use Rattle.std.proofs.Common.{◌≡◌, ℕ, ◌<◌, ◌≤◌, List, [], ◌++◌, Bool, length, refl, sym, ◌∙◌, ap, subst, inl, inr, Some, None, Ok, Err, arith}
use Rattle.std.specs.declared.{option.Option.{Option}, result.Result.{Result}}
use Rattle.osek_values.specs.declared.{event.Event.{Event}, limits.TheConstants.{MAX_FILE, MAX_RECORD, MAX_TABLE}, numbers.ModeNo.{ModeNo}, refusal.Refusal.{Refusal}}
use Rattle.osek_standard.specs.declared.app.App.{App}
use Rattle.oil_system.specs.declared.system.System.{System}
use Rattle.front_end.specs.{Texts.{DeclaresSystem, GivesApp}, Answers.{IsOilRefusal, IsCodeRefusal}}
use Rattle.front_end.proofs.OneAnswer.{one_oil, one_code}
use Rattle.image_model.specs.declared.image.Image.{Image}
use Rattle.image_codec.specs.{declared.fault.ImageFault.{ImageFault}, Spelling.{spelling}, ImageReading.{read_image, parts_of}}
use Rattle.image_model.specs.ImageTrace.{has_trap}
use Rattle.image_codec.proofs.{DecodeLaws.{its_reading}, GoodOfValid.{one_spelling_holds, read_again}}
use Rattle.trace_text.specs.{EventText.{read_text}, RecordText.{read_record}}
use Rattle.osek_io.specs.Files.{Files}
use Rattle.command_runs.specs.{Playing.{Played}, Running.{end_of}}
use Rattle.commands.specs.Due.{RunDue, no_mode, no_events, ends, ImageDue, no_image, bad_image, is_read, ImageRuns, InfoDue, Upgrades, TextsDue, no_oil, bad_oil, no_code, bad_code, goes_on, IsBuilt, OwnDue, IsDue}
use Rattle.command_runs.specs.Replaying.{SpellImage, IsImageFault}
use Rattle.commands.specs.{Tracing.{never}, GeneratedFiles.{oil_name, code_name, events_name, default_mode}, Words.{Command, Build, Replay, Trace, Show, Report, Info, Gen, Upgrade, Certify, Check, Record, Watch}}
use Rattle.command_runs.specs.declared.stop.Stop.{Stop}
use Rattle.command_runs.specs.declared.stop.Stop.TheVariants as stop

-- the same look-up finds the same
pub same_found : {X : Type 0} (o : Option X) (a b : X) → o ≡ Some a → o ≡ Some b → a ≡ b
same_found o a b x y = let e = sym x ∙ y in cc e

pub not_found : {X : Type 0} (o : Option X) (a : X) → o ≡ None → o ≡ Some a → ⊥
not_found o a x y = let e = sym x ∙ y in absurd (cc e)

module _ (files : Files) where
  one_run : (app : App) (traps : ModeNo → List Event → Bool) (mode events : List ℕ) (a b : Result (Unit {0}) Stop) → RunDue files app traps mode events a → RunDue files app traps mode events b → a ≡ b
  one_run app traps mode events _ _ (no_mode x) (no_mode y) = refl
  one_run app traps mode events _ _ (no_mode x) (no_events m y p) = absurd (not_found _ m x y)
  one_run app traps mode events _ _ (no_mode x) (ends m t y p) = absurd (not_found _ m x y)
  one_run app traps mode events _ _ (no_events m x p) (no_mode y) = absurd (not_found _ m y x)
  one_run app traps mode events _ _ (no_events m x p) (no_events n y q) = refl
  one_run app traps mode events _ _ (no_events m x p) (ends n t y q) = absurd (not_found _ t p q)
  one_run app traps mode events _ _ (ends m t x p) (no_mode y) = absurd (not_found _ m y x)
  one_run app traps mode events _ _ (ends m t x p) (no_events n y q) = absurd (not_found _ t q p)
  one_run app traps mode events _ _ (ends m t x p) (ends n u y q) =
      let modes : m ≡ n = same_found _ m n x y in
      let texts : t ≡ u = same_found _ t u p q in
      (λ j. end_of (traps (modes j) (read_text app (texts j)).events) (read_text app (texts j)).fault)

  pub same_image : (b c : List ℕ) (i j : Image) → b ≡ c → SpellImage b i → SpellImage c j → i ≡ j
  same_image b c i j e x y = (one_spelling_holds i j [] [] x.fits y.fits (ap (λ (l : List ℕ). l ++ []) (x.spelled ∙ e ∙ sym y.spelled))).0

  -- bytes that spell an image have no fault
  pub no_image_fault : (b c : List ℕ) (i : Image) (f : ImageFault) → b ≡ c → SpellImage b i → IsImageFault c f → ⊥
  no_image_fault b c i f e x (inl (over, is)) = let within = subst (λ (l : List ℕ). length l ≤ MAX_FILE) e x.within in omega (arith, over, within)
  no_image_fault b c i f e x (inr (within, fault)) =
      let reads : read_image (spelling i) ≡ Ok (parts_of i) = its_reading (spelling i) (parts_of i) [] (read_again i x.fits) in
      let faulty : read_image (spelling i) ≡ Err f = ap read_image (x.spelled ∙ e) ∙ fault in
      let both = sym reads ∙ faulty in absurd (cc both)

  same_image_fault : (b c : List ℕ) (f g : ImageFault) → b ≡ c → IsImageFault b f → IsImageFault c g → f ≡ g
  same_image_fault b c f g e (inl (over, x)) (inl (more, y)) = x ∙ sym y
  same_image_fault b c f g e (inl (over, x)) (inr (within, y)) = let same : length b ≡ length c = ap (λ (l : List ℕ). length l) e in absurd (omega (arith, over, within, same))
  same_image_fault b c f g e (inr (within, x)) (inl (over, y)) = let same : length b ≡ length c = ap (λ (l : List ℕ). length l) e in absurd (omega (arith, over, within, same))
  same_image_fault b c f g e (inr (within, x)) (inr (inside, y)) = let both = sym x ∙ ap read_image e ∙ y in cc both

  module _ (image : List ℕ) (Next : Image → Result (Unit {0}) Stop → Type 0) (one_next : (i : Image) (a b : Result (Unit {0}) Stop) → Next i a → Next i b → a ≡ b) where
    one_image : (a b : Result (Unit {0}) Stop) → ImageDue files image Next a → ImageDue files image Next b → a ≡ b
    one_image _ _ (no_image x) (no_image y) = refl
    one_image _ _ (no_image x) (bad_image b f y p) = absurd (not_found _ b x y)
    one_image _ _ (no_image x) (is_read b i r y p d) = absurd (not_found _ b x y)
    one_image _ _ (bad_image b f x p) (no_image y) = absurd (not_found _ b y x)
    one_image _ _ (bad_image b f x p) (bad_image c g y q) = ap (λ (k : ImageFault). Err (stop.Image k)) (same_image_fault b c f g (same_found _ b c x y) p q)
    one_image _ _ (bad_image b f x p) (is_read c i r y q d) = absurd (no_image_fault c b i f (same_found _ c b y x) q p)
    one_image _ _ (is_read b i r x p d) (no_image y) = absurd (not_found _ b y x)
    one_image _ _ (is_read b i r x p d) (bad_image c g y q) = absurd (no_image_fault b c i g (same_found _ b c x y) p q)
    one_image _ _ (is_read b i r x p d) (is_read c j q y s e) =
        let images : j ≡ i = same_image c b j i (same_found _ c b y x) s p in
        one_next i r q d (subst (λ (k : Image). Next k q) images e)

  -- a table, and what is said of it and an image
  module _ (app : App) where
    told : (b : List ℕ) (t : PlainTable) → SpellTable app b t → IsSpellable app t
    told b t x = short_is_spellable app t x.written (omega (arith, x.within, ap (λ (l : List ℕ). length l) x.spelled))

    same_table : (b c : List ℕ) (t u : PlainTable) → b ≡ c → SpellTable app b t → SpellTable app c u → t ≡ u
    same_table b c t u e x y = (spelled_once app t u [] [] (told b t x) (told c u y) (ap (λ (l : List ℕ). l ++ []) (x.spelled ∙ e ∙ sym y.spelled))).0

    -- bytes that spell a table have no fault
    no_table_fault : (b c : List ℕ) (t : PlainTable) (f : TableFault) → b ≡ c → SpellTable app b t → IsTableFileFault app c f → ⊥
    no_table_fault b c t f e x (inl (over, is)) = let within = subst (λ (l : List ℕ). length l ≤ MAX_TABLE) e x.within in omega (arith, over, within)
    no_table_fault b c t f e x (inr (within, first)) = no_first_fault app t f (told b t x) (subst (λ (l : List ℕ). IsFirstFault app l f) (sym (x.spelled ∙ e)) first)

    same_table_fault : (b c : List ℕ) (f g : TableFault) → b ≡ c → IsTableFileFault app b f → IsTableFileFault app c g → f ≡ g
    same_table_fault b c f g e (inl (over, x)) (inl (more, y)) = x ∙ sym y
    same_table_fault b c f g e (inl (over, x)) (inr (within, y)) = let same : length b ≡ length c = ap (λ (l : List ℕ). length l) e in absurd (omega (arith, over, within, same))
    same_table_fault b c f g e (inr (within, x)) (inl (over, y)) = let same : length b ≡ length c = ap (λ (l : List ℕ). length l) e in absurd (omega (arith, over, within, same))
    same_table_fault b c f g e (inr (within, x)) (inr (inside, y)) = one_first_fault app c f g (subst (λ (l : List ℕ). IsFirstFault app l f) e x) y

    module _ (table : List ℕ) (Next : PlainTable → Result (Unit {0}) Stop → Type 0) (one_next : (t : PlainTable) (a b : Result (Unit {0}) Stop) → Next t a → Next t b → a ≡ b) where
      one_table_due : (a b : Result (Unit {0}) Stop) → TableDue files table app Next a → TableDue files table app Next b → a ≡ b
      one_table_due _ _ (no_table x) (no_table y) = refl
      one_table_due _ _ (no_table x) (bad_table b f y p) = absurd (not_found _ b x y)
      one_table_due _ _ (no_table x) (is_table b t r y p d) = absurd (not_found _ b x y)
      one_table_due _ _ (bad_table b f x p) (no_table y) = absurd (not_found _ b y x)
      one_table_due _ _ (bad_table b f x p) (bad_table c g y q) = ap (λ (k : TableFault). Err (stop.Table k)) (same_table_fault b c f g (same_found _ b c x y) p q)
      one_table_due _ _ (bad_table b f x p) (is_table c t r y q d) = absurd (no_table_fault c b t f (same_found _ c b y x) q p)
      one_table_due _ _ (is_table b t r x p d) (no_table y) = absurd (not_found _ b y x)
      one_table_due _ _ (is_table b t r x p d) (bad_table c g y q) = absurd (no_table_fault b c t g (same_found _ b c x y) p q)
      one_table_due _ _ (is_table b t r x p d) (is_table c u q y s e) =
          let tables : u ≡ t = same_table c b u t (same_found _ c b y x) s p in
          one_next t r q d (subst (λ (k : PlainTable). Next k q) tables e)

  same_denial : (app : App) (v : Verdict) (d e : Denial) → IsDenial app v d → IsDenial app v e → d ≡ e
  same_denial app verdict.Yes d e x y = absurd x
  same_denial app (verdict.N1 m) d e x y = x ∙ sym y
  same_denial app (verdict.N2 p) d e x y = x ∙ sym y
  same_denial app (verdict.N3 b) d e x y = x ∙ sym y
  same_denial app (verdict.N4 b) d e x y = x ∙ sym y

  one_judged : (i : Image) (t : PlainTable) (a b : Result (Unit {0}) Stop) → CheckDue i t a → CheckDue i t b → a ≡ b
  one_judged i t _ _ (agreed x) (agreed y) = refl
  one_judged i t _ _ (agreed x) (denied d y) = let same : verdict.Yes ≡ y.verdict = one_verdict i (sets_of t) verdict.Yes y.verdict x y.is in absurd (subst (λ (v : Verdict). IsDenial i.app v d) (sym same) y.told)
  one_judged i t _ _ (denied d x) (agreed y) = let same : verdict.Yes ≡ x.verdict = one_verdict i (sets_of t) verdict.Yes x.verdict y x.is in absurd (subst (λ (v : Verdict). IsDenial i.app v d) (sym same) x.told)
  one_judged i t _ _ (denied d x) (denied e y) =
      let same : y.verdict ≡ x.verdict = one_verdict i (sets_of t) y.verdict x.verdict y.is x.is in
      ap (λ (k : Denial). Err (stop.Denied k)) (same_denial i.app x.verdict d e x.told (subst (λ (v : Verdict). IsDenial i.app v e) same y.told))

  one_certified : (app : App) (a b : Result (Unit {0}) Stop) → IsCertifiedBy app a → IsCertifiedBy app b → a ≡ b
  one_certified app a b x y = x.end ∙ ap (λ (t : PlainTable). certify_end (length (table_spelling app t))) (one_table app x.table y.table x.least y.least) ∙ sym y.end

  -- a record over a table has one first alarm, so what is printed of it is one text
  one_play : (app : App) (t u : PlainTable) (x y : List ℕ) (p q : Played) → t ≡ u → x ≡ y → IsWatched app (sets_of t) x p → IsWatched app (sets_of u) y q → p ≡ q
  one_play app t u x y p q same texts h k =
      let w : IsWatched app (sets_of u) y p = subst (λ (l : List ℕ). IsWatched app (sets_of u) l p) texts (subst (λ (s : PlainTable). IsWatched app (sets_of s) x p) same h) in
      let read = read_record app y in
      w.is ∙ ap (watched_by app read) (one_alarm app (sets_of u) read.points w.alarm k.alarm w.first k.first) ∙ sym k.is

  too_many : (x y : List ℕ) → x ≡ y → MAX_RECORD < length x → length y ≤ MAX_RECORD → ⊥
  too_many x y e over within = omega (arith, over, within, ap (λ (l : List ℕ). length l) e)

  one_watched : (points : List ℕ) (app : App) (a b : Result (Unit {0}) Stop) → WatchDue files points app a → WatchDue files points app b → a ≡ b
  one_watched points app _ _ (no_record x) (no_record y) = refl
  one_watched points app _ _ (no_record x) (too_long t y over) = absurd (not_found _ t x y)
  one_watched points app _ _ (no_record x) (is_watched t u p y within l h) = absurd (not_found _ t x y)
  one_watched points app _ _ (too_long t x over) (no_record y) = absurd (not_found _ t y x)
  one_watched points app _ _ (too_long t x over) (too_long u y more) = refl
  one_watched points app _ _ (too_long t x over) (is_watched v u p y within l h) = absurd (too_many t v (same_found _ t v x y) over within)
  one_watched points app _ _ (is_watched t u p x within l h) (no_record y) = absurd (not_found _ t y x)
  one_watched points app _ _ (is_watched t u p x within l h) (too_long v y over) = absurd (too_many v t (same_found _ v t y x) over within)
  one_watched points app _ _ (is_watched t u p x within l h) (is_watched v z q y inside m k) =
      ap (λ (r : Played). r.end) (one_play app u z t v p q (one_table app u z l m) (same_found _ t v x y) h k)

  -- the two texts: an answer of the OIL text, and of the code beside its system
  same_system : (t u : List ℕ) (s r : System) → t ≡ u → DeclaresSystem t s → DeclaresSystem u r → s ≡ r
  same_system t u s r e x y = let both = one_oil u (Ok s) (Ok r) (subst (λ (l : List ℕ). DeclaresSystem l s) e x) y in cc both

  no_oil_refusal : (t u : List ℕ) (s : System) (r : Refusal) → t ≡ u → DeclaresSystem t s → IsOilRefusal u r → ⊥
  no_oil_refusal t u s r e x y = let both = one_oil u (Ok s) (Err r) (subst (λ (l : List ℕ). DeclaresSystem l s) e x) y in absurd (cc both)

  same_oil_refusal : (t u : List ℕ) (r q : Refusal) → t ≡ u → IsOilRefusal t r → IsOilRefusal u q → r ≡ q
  same_oil_refusal t u r q e x y = let both = one_oil u (Err r) (Err q) (subst (λ (l : List ℕ). IsOilRefusal l r) e x) y in cc both

  same_given : (s z : System) (t u : List ℕ) (a b : App) → s ≡ z → t ≡ u → GivesApp s t a → GivesApp z u b → a ≡ b
  same_given s z t u a b f e x y = let both = one_code z u (Ok a) (Ok b) (subst (λ (l : List ℕ). GivesApp z l a) e (subst (λ (k : System). GivesApp k t a) f x)) y in cc both

  no_code_refusal : (s z : System) (t u : List ℕ) (a : App) (r : Refusal) → s ≡ z → t ≡ u → GivesApp s t a → IsCodeRefusal z u r → ⊥
  no_code_refusal s z t u a r f e x y = let both = one_code z u (Ok a) (Err r) (subst (λ (l : List ℕ). GivesApp z l a) e (subst (λ (k : System). GivesApp k t a) f x)) y in absurd (cc both)

  same_code_refusal : (s z : System) (t u : List ℕ) (r q : Refusal) → s ≡ z → t ≡ u → IsCodeRefusal s t r → IsCodeRefusal z u q → r ≡ q
  same_code_refusal s z t u r q f e x y = let both = one_code z u (Err r) (Err q) (subst (λ (l : List ℕ). IsCodeRefusal z l r) e (subst (λ (k : System). IsCodeRefusal k t r) f x)) y in cc both

  module _ (oil code : List ℕ) (Next : App → Result (Unit {0}) Stop → Type 0) (one_next : (app : App) (a b : Result (Unit {0}) Stop) → Next app a → Next app b → a ≡ b) where
    one_texts : (a b : Result (Unit {0}) Stop) → TextsDue files oil code Next a → TextsDue files oil code Next b → a ≡ b
    one_texts _ _ (no_oil x) (no_oil y) = refl
    one_texts _ _ (no_oil x) (bad_oil u q y p) = absurd (not_found _ u x y)
    one_texts _ _ (no_oil x) (no_code u z y p m) = absurd (not_found _ u x y)
    one_texts _ _ (no_oil x) (bad_code u z v q y p w k) = absurd (not_found _ u x y)
    one_texts _ _ (no_oil x) (goes_on u z v b q y p w k n) = absurd (not_found _ u x y)
    one_texts _ _ (bad_oil t r x h) (no_oil y) = absurd (not_found _ t y x)
    one_texts _ _ (bad_oil t r x h) (bad_oil u q y p) = ap (λ (k : Refusal). Err (stop.Refused k)) (same_oil_refusal t u r q (same_found _ t u x y) h p)
    one_texts _ _ (bad_oil t r x h) (no_code u z y p m) = absurd (no_oil_refusal u t z r (same_found _ u t y x) p h)
    one_texts _ _ (bad_oil t r x h) (bad_code u z v q y p w k) = absurd (no_oil_refusal u t z r (same_found _ u t y x) p h)
    one_texts _ _ (bad_oil t r x h) (goes_on u z v b q y p w k n) = absurd (no_oil_refusal u t z r (same_found _ u t y x) p h)
    one_texts _ _ (no_code t s x h m) (no_oil y) = absurd (not_found _ t y x)
    one_texts _ _ (no_code t s x h m) (bad_oil u q y p) = absurd (no_oil_refusal t u s q (same_found _ t u x y) h p)
    one_texts _ _ (no_code t s x h m) (no_code u z y p n) = refl
    one_texts _ _ (no_code t s x h m) (bad_code u z v q y p w k) = absurd (not_found _ v m w)
    one_texts _ _ (no_code t s x h m) (goes_on u z v b q y p w k n) = absurd (not_found _ v m w)
    one_texts _ _ (bad_code t s c r x h l g) (no_oil y) = absurd (not_found _ t y x)
    one_texts _ _ (bad_code t s c r x h l g) (bad_oil u q y p) = absurd (no_oil_refusal t u s q (same_found _ t u x y) h p)
    one_texts _ _ (bad_code t s c r x h l g) (no_code u z y p m) = absurd (not_found _ c m l)
    one_texts _ _ (bad_code t s c r x h l g) (bad_code u z v q y p w k) =
        ap (λ (k : Refusal). Err (stop.Refused k)) (same_code_refusal s z c v r q (same_system t u s z (same_found _ t u x y) h p) (same_found _ c v l w) g k)
    one_texts _ _ (bad_code t s c r x h l g) (goes_on u z v b q y p w k n) =
        absurd (no_code_refusal z s v c b r (same_system u t z s (same_found _ u t y x) p h) (same_found _ v c w l) k g)
    one_texts _ _ (goes_on t s c a r x h l g d) (no_oil y) = absurd (not_found _ t y x)
    one_texts _ _ (goes_on t s c a r x h l g d) (bad_oil u q y p) = absurd (no_oil_refusal t u s q (same_found _ t u x y) h p)
    one_texts _ _ (goes_on t s c a r x h l g d) (no_code u z y p m) = absurd (not_found _ c m l)
    one_texts _ _ (goes_on t s c a r x h l g d) (bad_code u z v q y p w k) =
        absurd (no_code_refusal s z c v a q (same_system t u s z (same_found _ t u x y) h p) (same_found _ c v l w) g k)
    one_texts _ _ (goes_on t s c a r x h l g d) (goes_on u z v b q y p w k n) =
        let apps : b ≡ a = same_given z s v c b a (same_system u t z s (same_found _ u t y x) p h) (same_found _ v c w l) k g in
        one_next a r q d (subst (λ (f : App). Next f q) apps n)

pub one_due : (files : Files) (command : Option Command) (a b : Result (Unit {0}) Stop) → IsDue files command a → IsDue files command b → a ≡ b
one_due files None a b x y = x ∙ sym y
one_due files (Some (Build oil code image)) a b x y = one_texts files oil code IsBuilt (λ app a b x y. x ∙ sym y) a b x y
one_due files (Some (Replay image mode events)) a b x y = one_image files image (ImageRuns files mode events) (λ i. one_run files i.app (has_trap i) mode events) a b x y
one_due files (Some (Trace oil code mode events)) a b x y = one_texts files oil code (λ app. RunDue files app never mode events) (λ app. one_run files app never mode events) a b x y
one_due files (Some (Show oil code)) a b x y = one_texts files oil code IsBuilt (λ app a b x y. x ∙ sym y) a b x y
one_due files (Some (Report oil code)) a b x y = one_texts files oil code IsBuilt (λ app a b x y. x ∙ sym y) a b x y
one_due files (Some (Info image)) a b x y = one_image files image InfoDue (λ i a b x y. x ∙ sym y) a b x y
one_due files (Some (Upgrade image upgraded)) a b x y = one_image files image Upgrades (λ i a b x y. x ∙ sym y) a b x y
one_due files (Some (Gen seed tasks)) a b x y = x ∙ sym y
one_due files (Some (Certify oil code image table)) a b x y = one_texts files oil code IsCertifiedBy (one_certified files) a b x y
one_due files (Some (Check image table)) a b x y = one_image files image (ImageIsJudged files table) (λ i. one_table_due files i.app table (CheckDue i) (one_judged files i)) a b x y
one_due files (Some (Record image mode events)) a b x y = one_image files image (ImageRuns files mode events) (λ i. one_run files i.app (has_trap i) mode events) a b x y
one_due files (Some (Watch oil code points)) a b x y = one_texts files oil code (WatchDue files points) (one_watched files points) a b x y

-- a run in memory is due one answer
pub one_own : (files : Files) (a b : Result (Unit {0}) Stop) → OwnDue files a → OwnDue files b → a ≡ b
one_own files a b x y = one_texts files oil_name code_name (λ app. RunDue files app never default_mode events_name) (λ app. one_run files app never default_mode events_name) a b x y
