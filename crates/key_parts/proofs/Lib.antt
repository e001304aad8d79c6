mod Base64InJson
mod ReadBack
