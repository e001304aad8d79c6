use Rattle.json_values.proofs.Decimals.{round_trip}
use Rattle.json_values.proofs.decimal.decimals_round_trip.Goals as goal

pub returns : goal.returns
returns g = round_trip
