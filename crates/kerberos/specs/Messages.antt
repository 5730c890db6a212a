-- The messages of the Kerberos exchange by their names (document 01, "Steps"; 02, change 6; document 003, sections 3.6 to 3.8).
-- Each is a plain message; numbers stand for the principal, key, time or nonce of that number. The server's reply and the ticket are
-- sent apart under HD and HW; the initiator carries the ticket beside the reply under H5, inside it under H4. So the forms differ in
-- what step 3 sends, and what step 4 takes and sends.
-- Assumes nothing.
use Rattle.std.specs.Prelude.{ℕ, List, [], ◌∷◌}
use Rattle.exchange.specs.declared.form.Form.{Form}
use Rattle.exchange.specs.declared.form.Form.TheVariants.{Parallel, Kerberos5, Kerberos4}
use Rattle.terms.specs.Message.{long_term, session, Message, principal, time, nonce, key, pair, encrypted}

-- ---- the parts

-- "[a, b, nonce]": the initiator's request to the server
abbrev pub request : (a b n : ℕ) → Message
request a b n = pair (principal a) (pair (principal b) (nonce n))

-- "{K, b, Ts, N} under a's key", or "{K, b, Ts, N, ticket}": the server's reply for the initiator ("the panel's part"), the rest
-- being N, or N and what stands in the ticket's place
abbrev pub reply : (k b ts : ℕ) → (rest : Message) → (a : ℕ) → Message
reply k b ts rest a = encrypted (pair (key (session k)) (pair (principal b) (pair (time ts) rest))) (long_term a)

-- "{K, a, Ts} under b's key": the ticket for the responder
abbrev pub ticket : (k a ts b : ℕ) → Message
ticket k a ts b = encrypted (pair (key (session k)) (pair (principal a) (time ts))) (long_term b)

-- "{a, Ta}K": the initiator's authenticator
abbrev pub authenticator : (a ta k : ℕ) → Message
authenticator a ta k = encrypted (pair (principal a) (time ta)) (session k)

-- "{Ta}K": the responder's confirmation
abbrev pub confirmation : (ta k : ℕ) → Message
confirmation ta k = encrypted (time ta) (session k)

-- ---- by the form

-- step 3 "sends {K, b, Ts, N} under a's key, then {K, a, Ts} under b's key"; H5: "sends one pair of the panel's part and the
-- ticket"; H4: "the panel's part is {K, b, Ts, N, ticket} under a's key and the ticket is not sent apart"
abbrev pub issue : Form → (k a b ts n : ℕ) → List Message
issue Parallel k a b ts n = reply k b ts (nonce n) a ∷ ticket k a ts b ∷ []
issue Kerberos5 k a b ts n = pair (reply k b ts (nonce n) a) (ticket k a ts b) ∷ []
issue Kerberos4 k a b ts n = reply k b ts (pair (nonce n) (ticket k a ts b)) a ∷ []

-- what step 4 takes: "{K, b, Ts, own nonce} under a's key"; H5: "a pair of the panel's part and any term X"; H4: "any X from the
-- last place of that part"
abbrev pub grant : Form → (k b ts n a : ℕ) → (x : Message) → Message
grant Parallel k b ts n a x = reply k b ts (nonce n) a
grant Kerberos5 k b ts n a x = pair (reply k b ts (nonce n) a) x
grant Kerberos4 k b ts n a x = reply k b ts (pair (nonce n) x) a

-- step 4 "sends {a, Ta}K"; H5: "sends the pair of X and {a, Ta}K"; H4: "sends the same pair as under H5"
abbrev pub presented : Form → (a ta k : ℕ) → (x : Message) → List Message
presented Parallel a ta k x = authenticator a ta k ∷ []
presented Kerberos5 a ta k x = pair x (authenticator a ta k) ∷ []
presented Kerberos4 a ta k x = pair x (authenticator a ta k) ∷ []
