-- What a call says of the session that a handle holds.
use Rattle.std.specs.Prelude.{◌≡◌, ℕ, Option, None, Some}
use Rattle.line_host.specs.Helped.{Helped}
use Rattle.line_host.specs.Hosted.{Hosted}
use Rattle.line_host.specs.New.{IsNew, Refuses}
use Rattle.line_host.specs.Status.{code_of}
use Rattle.line_host.specs.declared.settings.Settings.{Settings}
use Rattle.line_host.specs.declared.status.Status.{Status}
use Rattle.line_host.specs.declared.status.Status.TheVariants.{Done, Empty}
use Rattle.line_c.specs.declared.handle.Handle.{Handle}

-- where there is no session, the number says so, and there is none still; else this holds of the session before and after, and of the status that
-- the number stands for
abbrev pub Between : Option (Hosted Helped) → Option (Hosted Helped) → ℕ → (Hosted Helped → Hosted Helped → Status → Type 0) → Type 0
Between None after code P = (code ≡ code_of Empty) × (after ≡ None)
Between (Some old) None code P = ⊥
Between (Some old) (Some new) code P = (came : Status) × (code ≡ code_of came) × P old new came

-- the same of what a handle holds before and after a call
abbrev pub OnSession : Handle → Handle → ℕ → (Hosted Helped → Hosted Helped → Status → Type 0) → Type 0
OnSession old new code P = Between old.session new.session code P

-- a session was made by these settings, or there is none, and the number says why
abbrev pub Makes : Settings → Option (Hosted Helped) → ℕ → Type 0
Makes settings (Some session) code = (code ≡ code_of Done) × IsNew settings session
Makes settings None code = (came : Status) × (code ≡ code_of came) × Refuses settings came
