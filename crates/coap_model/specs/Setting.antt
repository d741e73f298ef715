-- The setting that a proxy is created with, which no step changes (`laws::settings_stay`).
use Rattle.std.specs.Prelude.{ℕ}
use Rattle.coap_target.specs.declared.routes.Routes.{Routes}
use Rattle.coap_limits.specs.Limits.{Limits}

pub record Setting : Type 0 where
  pub limits : Limits
  pub routes : Routes
  pub first_id : ℕ
  pub salt : ℕ

abbrev pub setting_of : Limits → Routes → ℕ → ℕ → Setting
setting_of limits routes first_id salt =
    record { limits = limits; routes = routes; first_id = first_id; salt = salt }
