-- A row that meets a need has its role and stage.
-- Assumes nothing.
use Rattle.std.specs.Prelude.{◌≡◌, refl, true, eqb}
use Rattle.std.proofs.Math.Bool.{and-eq-true_iff}
use Rattle.exchange.specs.declared.run.Role.{Role}
use Rattle.exchange.specs.declared.run.Role.TheVariants.{Initiator, Responder, Server}
use Rattle.exchange.specs.declared.run.Stage.{Stage}
use Rattle.exchange.specs.declared.run.Stage.TheVariants.{Opened, Authenticated, Done}
use Rattle.exchange.specs.declared.run.Row.{Row}
use Rattle.exchange.specs.Needs.{role_number, stage_number, is_at}

-- ---- a row at a role and stage

role_same : (x y : Role) → eqb (role_number x) (role_number y) ≡ true → x ≡ y
role_same Initiator Initiator h = refl
role_same Initiator Responder h = cc
role_same Initiator Server h = cc
role_same Responder Initiator h = cc
role_same Responder Responder h = refl
role_same Responder Server h = cc
role_same Server Initiator h = cc
role_same Server Responder h = cc
role_same Server Server h = refl

stage_same : (x y : Stage) → eqb (stage_number x) (stage_number y) ≡ true → x ≡ y
stage_same Opened Opened h = refl
stage_same Opened Authenticated h = cc
stage_same Opened Done h = cc
stage_same Authenticated Opened h = cc
stage_same Authenticated Authenticated h = refl
stage_same Authenticated Done h = cc
stage_same Done Opened h = cc
stage_same Done Authenticated h = cc
stage_same Done Done h = refl

pub is_at_same : (x : Row) (role : Role) (stage : Stage) → is_at x role stage ≡ true → (x.role ≡ role) × (x.stage ≡ stage)
is_at_same x role stage h =
    let b = (and-eq-true_iff (eqb (role_number x.role) (role_number role)) (eqb (stage_number x.stage) (stage_number stage))).0 h in
    (role_same x.role role b.0, stage_same x.stage stage b.1)
