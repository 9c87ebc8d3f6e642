-- What a function that answers a request promises: that it has added exactly the reply's text, none where the request
-- is cut, and whether the request was served (private: the public function states both at once).
use Rattle.std.specs.Prelude.{ℕ, ◌≡◌, Bool, false, cond, List, length, leb}
use Rattle.def_wire.specs.Bytes.{byte_at}
use Rattle.def_text.specs.Buffer.{Added}
use Rattle.def_probe.specs.Requests.{Reply, reply_text, is_told}
use Rattle.probe.specs.declared.Told.{Told}

pub record Replied (l : List ℕ) (at : ℕ) (reply : Reply) (l' : List ℕ) (r : Told) : Type 0 where
  pub text : Added l at (reply_text reply) l' r.at
  pub served : r.served ≡ is_told reply

-- a payload of at least n bytes, the first of which is a reading
abbrev pub begins_well : ℕ → List ℕ → Bool
begins_well n p = cond (leb n (length p)) (leb (byte_at p 0) 1) false
