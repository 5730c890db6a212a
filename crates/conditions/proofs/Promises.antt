-- What the crate promises beside the contracts of its functions, which answer the tests of `Conditions`: what `admit` lets pass,
-- and which refusals it has.
-- Assumes nothing.
use Rattle.std.specs.Prelude.{ℕ, true, false, List, ◌↔◌, ◌≢◌, ◌⊎◌, ◌≡◌}
use Rattle.std.proofs.Common.{sym, ◌∙◌}
use Rattle.traces.specs.Lists.{◌∈◌}
use Rattle.replay.specs.Cache.{present, entries, fits, number_of, remembered}
use Rattle.replay.proofs.CacheLaws.Calls.{refusal_none, refusal_passed}
use Rattle.replay.proofs.Promises.{remember_number}
use Rattle.replay.specs.declared.entry.Entry.{Entry}
use Rattle.realm.specs.declared.header.Realm.{Realm}
use Rattle.conditions.specs.Conditions.{ticket_lives, authenticator_lives, not_ahead, admission, admission_refusals}
use Rattle.conditions.proofs.Laws.{by_cache, admission_passed, admission_number, ahead_exact}

module _ (h : Realm) (cache : List Entry) (ts : ℕ) (e : Entry) where
  -- 16 to 19 and 22 let pass exactly: a ticket and an authenticator that live, of a time that is not ahead, which no entry has, and a
  -- place for their entry
  pub admission_exact : (admission h cache ts e ≡ 0)
      ↔ ((ticket_lives h ts ≡ true)
      × (authenticator_lives h e.ta ≡ true)
      × (not_ahead h e.ta ≡ true)
      × (present (entries cache h.entries) e ≡ false)
      × (h.entries ≢ 16))
  admission_exact = (
    λ z.
        let p = admission_passed h cache ts e z in
        let q = refusal_passed cache h.entries e p.3 in
        (p.0, p.1, p.2, q.0, q.1),
    λ p. sym (refusal_none cache h.entries e p.3 p.4 ∙ by_cache h cache ts e p.0 p.1 p.2),
  )

  -- and no other refusal is given
  pub admission_refusals_lem : (admission h cache ts e ≡ 0) ⊎ (admission h cache ts e ∈ admission_refusals)
  admission_refusals_lem = admission_number h cache ts e

  -- "22 for such a Ta, after 17 and before 18": where both live, it is 22 exactly if Ta is above clock + La, whatever the cache holds
  pub admission_ahead : ticket_lives h ts ≡ true → authenticator_lives h e.ta ≡ true → (admission h cache ts e ≡ 22) ↔ (not_ahead h e.ta ≡ false)
  admission_ahead ticket authenticator = ahead_exact h cache ts e ticket authenticator

  -- "remember then 18 or 19 as in step 5": where nothing before it bars, it is the number that `remember` of the entry answers
  pub admission_remembers : ticket_lives h ts ≡ true → authenticator_lives h e.ta ≡ true → not_ahead h e.ta ≡ true → fits cache h.entries ≡ true
      → admission h cache ts e ≡ number_of (remembered cache h.entries e)
  admission_remembers ticket authenticator near f = sym (by_cache h cache ts e ticket authenticator near) ∙ sym (remember_number cache h.entries e f)
